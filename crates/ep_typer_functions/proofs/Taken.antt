-- A name that is taken and no name of the scope is a built-in one.
use Rattle.std.proofs.Common.{◌≡◌, ℕ, Bool, true, ◌||◌, List, [], ◌∷◌, None, refl, sym, ap, ◌∙◌}
use Rattle.std.specs.Prelude.{is_some}
use Rattle.ep_layout.specs.Table.{Table}
use Rattle.ep_core.specs.Program.{Block}
use Rattle.ep_typing.specs.Env.{Env, NamedFields, Scope, Signature, entry}
use Rattle.ep_typing.specs.Parts.{built_in}
use Rattle.ep_elaboration.specs.Declarators.{is_taken}
use Rattle.ep_elaboration.specs.Functions.{file_names, stands_against}

taken_built_in : (t : Table) (ns : List (ℕ × NamedFields)) (ss : List Scope) (bs : List Block) (fs : List Signature) (name : List ℕ)
    → entry name (file_names (record { types = t; fields = ns; scopes = ss; blocks = bs; functions = fs })) ≡ None
    → is_taken name ss ≡ true → is_some (entry name built_in) ≡ true
taken_built_in t ns [] bs fs name n k = k
taken_built_in t ns (s ∷ ss) bs fs name n k = sym (ap (λ o. is_some o || is_some (entry name built_in)) n) ∙ k

pub stands : (G : Env) (ds : List ℕ) (w : Bool) (s : Signature) → entry s.name (file_names G) ≡ None
    → is_taken s.name G.scopes ≡ true → stands_against G ds w s (entry s.name (file_names G)) ≡ true
stands G ds w s n k =
    let b : is_some (entry s.name built_in) ≡ true = taken_built_in G.types G.fields G.scopes G.blocks G.functions s.name n k in
    rw (n, b) refl
