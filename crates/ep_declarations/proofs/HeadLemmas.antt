-- Reading heads of functions behind the words that begin them.
use Rattle.std.proofs.Common.{◌≡◌, ℕ, Bool, true, false, List, ◌∷◌, Option, Some, refl, sym}
use Rattle.ep_ast.specs.Token.{Tok, word, name, mark}
use Rattle.ep_ast.specs.Declaration.{Spec, Params, Head}
use Rattle.ep_ast.specs.Mark.{const_word, left_paren}
use Rattle.ep_ast.specs.TypeWords.{AreStars}
use Rattle.ep_ast.specs.DeclarationGrammar.{at_file_scope, Specified, Parameters, Headed, head}
use Rattle.ep_ast.specs.Reading.{Takes, TakesNone, Lacks, AtMark, AtWord, LacksName}
use Rattle.ep_reading.proofs.FirstLemmas.{tail_is, lacks_is}
use Rattle.ep_declarations.proofs.DeclaratorLemmas.{same_name, no_const, lacks_name_is}

module _ (N : List ℕ → Bool) where
  -- words, and the stars behind them up to a name
  record Begun (xs : List Tok) (ss : List Spec) (ns : List ℕ) (l : ℕ) (text : List ℕ) (ys : List Tok) : Type 0 where
    from : List Tok
    words : Takes (Specified N at_file_scope) xs ss from
    stars : Takes AreStars from ns (name l text ∷ ys)

  begun : (xs us ys zs : List Tok) (ss : List Spec) (ns : List ℕ) (l : ℕ) (text : List ℕ)
      → Takes (Specified N at_file_scope) xs ss us → Takes AreStars us ns ys → ys ≡ name l text ∷ zs
      → Begun xs ss ns l text zs
  begun xs us ys zs ss ns l text w s e = record { from = us; words = w; stars = rw e at s }

  record SameHead (ss us : List Spec) (ns ms : List ℕ) (l m : ℕ) (s t : List ℕ) (xs ys : List Tok) : Type 0 where
    specs : us ≡ ss
    stars : ms ≡ ns
    line : m ≡ l
    text : t ≡ s
    tail : ys ≡ xs

  same_begun : {xs vs ys zs : List Tok} {ss us : List Spec} {ns ms : List ℕ} {l m : ℕ} {s t : List ℕ}
      → Begun xs ss ns l s ys → Specified N at_file_scope xs vs us → AreStars vs (name m t ∷ zs) ms
      → SameHead ss us ns ms l m s t ys zs
  same_begun {vs = vs} {zs = zs} {us = us} {ms = ms} {m = m} {t = t} b d e =
      let q = b.words.only us vs d in
      let r = b.stars.only ms (name m t ∷ zs) (rw q.1 at e) in
      let k = same_name r.1 in
      record { specs = q.0; stars = r.0; line = k.line; text = k.text; tail = k.tail }

  headed_only : {xs ys zs vs : List Tok} {ss : List Spec} {ns : List ℕ} {l m c : ℕ} {text : List ℕ} {ps : Option Params}
      {u : Head} → Begun xs ss ns l text (mark m c ∷ ys) → Takes (Parameters N) ys ps zs → Headed N xs vs u
      → (u ≡ record { line = l; specs = ss; stars = ns; name = text; params = ps }) × (vs ≡ zs)
  headed_only b p (head {ws = vs'} {ps = ps'} f k d e g) =
      let q = same_begun b d e in
      let r = p.only ps' vs' (rw (tail_is q.tail) at g) in
      (rw (q.line, q.specs, q.stars, q.text, r.0) refl, r.1)

  pub headed_taken : (xs us ys zs vs ws : List Tok) (ss : List Spec) (ns : List ℕ) (l m : ℕ) (text : List ℕ)
      (ps : Option Params) → Takes (Specified N at_file_scope) xs ss us → Takes AreStars us ns ys
      → ys ≡ name l text ∷ zs
      → N text ≡ false → AtMark left_paren zs (Some (m, vs)) → Takes (Parameters N) vs ps ws
      → Takes (Headed N) xs (record { line = l; specs = ss; stars = ns; name = text; params = ps }) ws
  headed_taken xs us ys zs vs ws ss ns l m text ps w s e f k p =
      let b : Begun xs ss ns l text (mark m k.0 ∷ vs) = rw k.2 at (begun xs us ys zs ss ns l text w s e) in
      record { holds = head f k.1 w.holds (rw (e, k.2) at s.holds) p.holds; only = λ u vs d. headed_only b p d }

  -- ---- refusals

  const_never : {l c : ℕ} {xs us vs : List Tok} {ss : List Spec} {u : Head}
      → Takes (Specified N at_file_scope) xs ss (word l c ∷ us) → c ≡ const_word → Headed N xs vs u → ⊥
  const_never w h (head {ys = ys'} {ss = ss'} f k d e g) =
      let q = w.only ss' ys' d in
      let s = rw q.1 at e in no_const h s.stars s.over

  pub const_first : (xs us vs : List Tok) (ss : List Spec) (l : ℕ) → Takes (Specified N at_file_scope) xs ss us
      → AtWord const_word us (Some (l, vs)) → TakesNone (Headed N) xs
  const_first xs us vs ss l w k = record { never = λ u ws d. const_never (rw k.2 at w) k.1 d }

  nameless : {xs us ys vs : List Tok} {ss : List Spec} {ns : List ℕ} {u : Head}
      → Takes (Specified N at_file_scope) xs ss us → Takes AreStars us ns ys → LacksName ys → Headed N xs vs u → ⊥
  nameless {ys = ys} w s n
      (head {l = l'} {m = m'} {c = c'} {text = text'} {ns = ns'} {ys = ys'} {zs = zs'} {ss = ss'} f k d e g) =
      let q = w.only ss' ys' d in
      let r = s.only ns' (name l' text' ∷ mark m' c' ∷ zs') (rw q.1 at e) in
      lacks_name_is l' text' ys (mark m' c' ∷ zs') n (sym r.1)

  pub no_name : (xs us ys : List Tok) (ss : List Spec) (ns : List ℕ) → Takes (Specified N at_file_scope) xs ss us
      → Takes AreStars us ns ys → LacksName ys → TakesNone (Headed N) xs
  no_name xs us ys ss ns w s n = record { never = λ u vs d. nameless w s n d }

  of_type : {xs ys vs : List Tok} {ss : List Spec} {ns : List ℕ} {l : ℕ} {text : List ℕ} {u : Head}
      → Begun xs ss ns l text ys → N text ≡ true → Headed N xs vs u → ⊥
  of_type b h (head {text = text'} f k d e g) = let q = same_begun b d e in let j : N text' ≡ true = rw q.text h in cc

  pub type_name : (xs us ys zs : List Tok) (ss : List Spec) (ns : List ℕ) (l : ℕ) (text : List ℕ)
      → Takes (Specified N at_file_scope) xs ss us → Takes AreStars us ns ys → ys ≡ name l text ∷ zs → N text ≡ true
      → TakesNone (Headed N) xs
  type_name xs us ys zs ss ns l text w s e h =
      record { never = λ u vs d. of_type (begun xs us ys zs ss ns l text w s e) h d }

  bare : {xs ys vs : List Tok} {ss : List Spec} {ns : List ℕ} {l : ℕ} {text : List ℕ} {u : Head}
      → Begun xs ss ns l text ys → Lacks left_paren ys → Headed N xs vs u → ⊥
  bare {ys = ys} b n (head {m = m'} {c = c'} {zs = zs'} f k d e g) = let q = same_begun b d e in
      lacks_is m' c' left_paren ys zs' n (sym q.tail) k

  pub no_paren : (xs us ys zs : List Tok) (ss : List Spec) (ns : List ℕ) (l : ℕ) (text : List ℕ)
      → Takes (Specified N at_file_scope) xs ss us → Takes AreStars us ns ys → ys ≡ name l text ∷ zs
      → Lacks left_paren zs → TakesNone (Headed N) xs
  no_paren xs us ys zs ss ns l text w s e n =
      record { never = λ u vs d. bare (begun xs us ys zs ss ns l text w s e) n d }

  parameters_never : {xs ys vs : List Tok} {ss : List Spec} {ns : List ℕ} {l m c : ℕ} {text : List ℕ} {u : Head}
      → Begun xs ss ns l text (mark m c ∷ ys) → TakesNone (Parameters N) ys → Headed N xs vs u → ⊥
  parameters_never b n (head {ws = vs'} {ps = ps'} f k d e g) = let q = same_begun b d e in
      n.never ps' vs' (rw (tail_is q.tail) at g)

  pub parameters_refused : (xs us ys zs vs : List Tok) (ss : List Spec) (ns : List ℕ) (l m : ℕ) (text : List ℕ)
      → Takes (Specified N at_file_scope) xs ss us → Takes AreStars us ns ys → ys ≡ name l text ∷ zs
      → AtMark left_paren zs (Some (m, vs)) → TakesNone (Parameters N) vs → TakesNone (Headed N) xs
  parameters_refused xs us ys zs vs ss ns l m text w s e k n =
      let b : Begun xs ss ns l text (mark m k.0 ∷ vs) = rw k.2 at (begun xs us ys zs ss ns l text w s e) in
      record { never = λ u ws d. parameters_never b n d }
