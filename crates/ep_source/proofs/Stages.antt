-- What offends in one of the three stages offends in the source, and what offends in none doesn't.
use Rattle.std.proofs.Common.{◌≡◌, ℕ, refl, subst, List, None}
use Rattle.ep_int.specs.declared.types.Model.{Model}
use Rattle.ep_ast.specs.declared.refusals.Refusal.{Refusal}
use Rattle.ep_ast.specs.declared.refusals.Halt.{Halt}
use Rattle.ep_ast.specs.declared.refusals.Halt.TheVariants as halts
use Rattle.ep_ast.specs.Refusal.{IfRefused}
use Rattle.ep_ast.specs.Token.{Tok}
use Rattle.ep_ast.specs.Statement.{Item}
use Rattle.ep_ast.specs.Cut.{Spells, start}
use Rattle.ep_ast.specs.Cut as bytes
use Rattle.ep_ast.specs.Offence as tokens
use Rattle.ep_ast.specs.Depth.{brackets_past}
use Rattle.ep_ast.specs.ProgramGrammar.{Programs}
use Rattle.ep_core.specs.Program.{Program}
use Rattle.ep_elaboration.specs.ProgramRules.{MeansProgram}
use Rattle.ep_elaboration.specs.ProgramOffences.{ProgramOffends}
use Rattle.ep_decls.specs.Answer.{NoneFits}
use Rattle.ep_source.specs.Source.{MeansNothing, MeansNothingWithin, Offends, in_bytes, in_tokens, in_program}

pub cut_offends : (m : Model) (bs : List ℕ) (e : Halt) → IfRefused e (bytes.Offends start bs) → IfRefused e (Offends m bs)
cut_offends m bs halts.Memory h = tt
cut_offends m bs (halts.Refused r) h = in_bytes h

pub tokens_offend : (m : Model) (bs : List ℕ) (ts : List Tok) (e : Halt) → Spells bs ts → IfRefused e (tokens.Offends ts)
    → IfRefused e (Offends m bs)
tokens_offend m bs ts halts.Memory s h = tt
tokens_offend m bs ts (halts.Refused r) s h = in_tokens ts s h

pub program_offends : (m : Model) (bs : List ℕ) (ts : List Tok) (is : List Item) (e : Halt) → Spells bs ts
    → ((r : Refusal) → tokens.Offends ts r → ⊥) → Programs ts is → IfRefused e (ProgramOffends m is)
    → IfRefused e (Offends m bs)
program_offends m bs ts is halts.Memory s f p h = tt
program_offends m bs ts is (halts.Refused r) s f p h = in_program ts is s f p h

pub faultless : (m : Model) (bs : List ℕ) (ts : List Tok) (is : List Item) → ((r : Refusal) → bytes.Offends start bs r → ⊥)
    → ((us : List Tok) → Spells bs us → us ≡ ts) → ((r : Refusal) → tokens.Offends ts r → ⊥)
    → ((js : List Item) → Programs ts js → js ≡ is) → ((r : Refusal) → ProgramOffends m is r → ⊥) → (r : Refusal)
    → Offends m bs r → ⊥
faultless m bs ts is b one t other p r (in_bytes h) = b r h
faultless m bs ts is b one t other p r (in_tokens us s h) = t r (subst (λ x. tokens.Offends x r) (one us s) h)
faultless m bs ts is b one t other p r (in_program us js s f d h) =
    let e : Programs ts js = subst (λ x. Programs x js) (one us s) d in
    p r (subst (λ x. ProgramOffends m x r) (other js e) h)

-- ---- what is refused means nothing

pub cut_nothing : (m : Model) (bs : List ℕ) (e : Halt) → IfRefused e (λ r. (ts : List Tok) → Spells bs ts → ⊥)
    → IfRefused e (MeansNothing m bs)
cut_nothing m bs halts.Memory h = tt
cut_nothing m bs (halts.Refused r) h = λ k q p. h p.spells.tokens p.spells.cut

no_tree : (ts : List Tok) (r : Refusal) → tokens.Offends ts r → (r.kind ≡ 22 → ⊥) → (is : List Item) → Programs ts is → ⊥
no_tree ts r (tokens.too_many_brackets b) k is p = k refl
no_tree ts r (tokens.no_program n never) k is p = never is p
no_tree ts r (tokens.too_deep_inside n d e) k is p = k refl

pub tokens_nothing : (m : Model) (bs : List ℕ) (ts : List Tok) (e : Halt) → ((us : List Tok) → Spells bs us → us ≡ ts)
    → IfRefused e (tokens.Offends ts) → IfRefused e (MeansNothing m bs)
tokens_nothing m bs ts halts.Memory one h = tt
tokens_nothing m bs ts (halts.Refused r) one h = λ k q p.
    no_tree ts r h k p.tree (subst (λ x. Programs x p.tree) (one p.spells.tokens p.spells.cut) p.spells.derived)

pub program_nothing : (m : Model) (bs : List ℕ) (ts : List Tok) (is : List Item) (e : Halt)
    → ((us : List Tok) → Spells bs us → us ≡ ts) → ((js : List Item) → Programs ts js → js ≡ is)
    → IfRefused e (λ r. (q : Program) → MeansProgram m is q → ⊥) → IfRefused e (MeansNothing m bs)
program_nothing m bs ts is halts.Memory one alone h = tt
program_nothing m bs ts is (halts.Refused r) one alone h = λ k q p.
    let d : Programs ts p.tree = subst (λ x. Programs x p.tree) (one p.spells.tokens p.spells.cut) p.spells.derived in
    h q (subst (λ x. MeansProgram m x q) (alone p.tree d) p.means)

-- ---- what is refused means nothing within the limits

pub cut_within : (m : Model) (bs : List ℕ) (e : Halt) → IfRefused e (λ r. (ts : List Tok) → Spells bs ts → ⊥)
    → IfRefused e (λ _. MeansNothingWithin m bs)
cut_within m bs halts.Memory h = tt
cut_within m bs (halts.Refused r) h = λ q p. h p.spells.tokens p.spells.cut

none_fits : (ts : List Tok) (r : Refusal) → tokens.Offends ts r → (r.kind ≡ 22 → NoneFits ts) → NoneFits ts
none_fits ts r (tokens.too_many_brackets b) k is p c d = cc
none_fits ts r (tokens.no_program n never) k is p c d = never is p
none_fits ts r (tokens.too_deep_inside n q e) k is p c d = k refl is p c d

pub tokens_within : (m : Model) (bs : List ℕ) (ts : List Tok) (e : Halt) → ((us : List Tok) → Spells bs us → us ≡ ts)
    → IfRefused e (tokens.Offends ts) → IfRefused e (λ r. r.kind ≡ 22 → NoneFits ts)
    → IfRefused e (λ _. MeansNothingWithin m bs)
tokens_within m bs ts halts.Memory one h k = tt
tokens_within m bs ts (halts.Refused r) one h k = λ q p.
    let same = one p.spells.tokens p.spells.cut in
    none_fits ts r h k p.tree (subst (λ x. Programs x p.tree) same p.spells.derived)
    (subst (λ x. brackets_past 0 x ≡ None) same p.shallow) p.flat

pub program_within : (m : Model) (bs : List ℕ) (ts : List Tok) (is : List Item) (e : Halt)
    → ((us : List Tok) → Spells bs us → us ≡ ts) → ((js : List Item) → Programs ts js → js ≡ is)
    → IfRefused e (λ r. (q : Program) → MeansProgram m is q → ⊥) → IfRefused e (λ _. MeansNothingWithin m bs)
program_within m bs ts is halts.Memory one alone h = tt
program_within m bs ts is (halts.Refused r) one alone h = λ q p.
    let d : Programs ts p.tree = subst (λ x. Programs x p.tree) (one p.spells.tokens p.spells.cut) p.spells.derived in
    h q (subst (λ x. MeansProgram m x q) (alone p.tree d) p.means)
