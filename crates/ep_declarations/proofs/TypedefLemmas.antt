-- Reading the names of types, each of which is one from the end of its declarator on.
use Rattle.std.proofs.Common.{◌≡◌, ℕ, Bool, false, List, [], ◌∷◌, ◌++◌, Some, refl, sym, ap, ◌∙◌, append_assoc}
use Rattle.ep_ast.specs.Token.{Tok, mark}
use Rattle.ep_ast.specs.Declaration.{Declarator}
use Rattle.ep_ast.specs.Mark.{comma, semicolon}
use Rattle.ep_ast.specs.DeclarationGrammar.{Declared, declares}
use Rattle.ep_ast.specs.ProgramGrammar.{with_name, Typedefs, last_typedef, next_typedef}
use Rattle.ep_ast.specs.Reading.{Takes, TakesNone, Lacks, AtMark}
use Rattle.ep_reading.proofs.FirstLemmas.{code_is, tail_is, lacks_is, apart}
use Rattle.ep_declarations.specs.DeclaratorAnswer.{NamesTypes}

-- a declared name was none of a type
pub was_none : {N : List ℕ → Bool} {xs ys : List Tok} {d : Declarator} → Declared N xs ys d → N d.name ≡ false
was_none (declares h s b) = h

-- these are read, and what comes are names of types again, where those of `now` are types
pub record TypedefsSo (before now : List ℕ → Bool) (xs : List Tok) (front : List Declarator) (ys : List Tok) : Type 0
  where
    pub forth : (after : List ℕ → Bool) (zs : List Tok) (ds : List Declarator) → Typedefs now after ys zs ds
        → Typedefs before after xs zs (front ++ ds)
    pub back : (after : List ℕ → Bool) (zs : List Tok) (ds : List Declarator) → Typedefs before after xs zs ds
        → (more : List Declarator) × (ds ≡ front ++ more) × Typedefs now after ys zs more

pub typedefs_begin : (N : List ℕ → Bool) (xs : List Tok) → TypedefsSo N N xs [] xs
typedefs_begin N xs = record { forth = λ after zs ds d. d; back = λ after zs ds d. (ds, refl, d) }

one_more : (front : List Declarator) {now after : List ℕ → Bool} {ys ws zs : List Tok} {m c : ℕ} {d : Declarator}
    {ds rest : List Declarator} → c ≡ comma → Takes (Declared now) ys d (mark m c ∷ ws) → ds ≡ front ++ rest
    → Typedefs now after ys zs rest
    → (more : List Declarator) × (ds ≡ (front ++ d ∷ []) ++ more) × Typedefs (with_name now d.name) after ws zs more
one_more front k t e (last_typedef {l = l'} {c = c'} {ys = ys'} {d = d'} h f) =
    let q = t.only d' (mark l' c' ∷ ys') f in absurd (apart semicolon comma refl h (code_is q.1 ∙ k))
one_more front {d = d} k t e (next_typedef {l = l'} {c = c'} {ys = ys'} {d = d'} {ds = ds'} h f g) =
    let q = t.only d' (mark l' c' ∷ ys') f in (
      ds',
      e ∙ ap (λ (x : Declarator). front ++ x ∷ ds') q.0 ∙ sym (append_assoc front (d ∷ []) ds'),
      rw (q.0, tail_is q.1) at g,
    )

pub typedefs_step : (before now new : List ℕ → Bool) (xs : List Tok) (front : List Declarator) (ys ws zs : List Tok)
    (m : ℕ) (text : List ℕ) (d : Declarator) → TypedefsSo before now xs front ys → Takes (Declared now) ys d ws
    → text ≡ d.name → (now text ≡ false → new ≡ with_name now text) → AtMark comma ws (Some (m, zs))
    → TypedefsSo before new xs (front ++ d ∷ []) zs
typedefs_step before now new xs front ys ws zs m text d s t e a k =
    let t' : Takes (Declared now) ys d (mark m k.0 ∷ zs) = rw k.2 at t in
    let n : new ≡ with_name now d.name = a (ap now e ∙ was_none t.holds) ∙ ap (λ (x : List ℕ). with_name now x) e in
    rw n (record {
      forth = λ after us ds f. rw append_assoc (s.forth after us (d ∷ ds) (next_typedef k.1 t'.holds f));
      back = λ after us ds f. let q = s.back after us ds f in one_more front k.1 t' q.1 q.2;
    })

at_last : (front : List Declarator) {now after : List ℕ → Bool} {ys ws zs : List Tok} {m c : ℕ} {d : Declarator}
    {ds rest : List Declarator} → c ≡ semicolon → Takes (Declared now) ys d (mark m c ∷ ws) → ds ≡ front ++ rest
    → Typedefs now after ys zs rest → (ds ≡ front ++ d ∷ []) × (after ≡ with_name now d.name) × (zs ≡ ws)
at_last front {now = now} k t e (last_typedef {l = l'} {c = c'} {ys = ys'} {d = d'} h f) =
    let q = t.only d' (mark l' c' ∷ ys') f in
    (e ∙ ap (λ (x : Declarator). front ++ x ∷ []) q.0, ap (λ (x : Declarator). with_name now x.name) q.0, tail_is q.1)
at_last front k t e (next_typedef {l = l'} {c = c'} {ys = ys'} {d = d'} h f g) =
    let q = t.only d' (mark l' c' ∷ ys') f in absurd (apart comma semicolon refl h (code_is q.1 ∙ k))

pair_is : {A B : Type 0} (p : A × B) (a : A) (b : B) → p.0 ≡ a → p.1 ≡ b → p ≡ (a, b)
pair_is (x, y) a b e f = rw (e, f) refl

pub typedefs_done : (before now new : List ℕ → Bool) (xs : List Tok) (front : List Declarator) (ys ws zs : List Tok)
    (m : ℕ) (text : List ℕ) (d : Declarator) → TypedefsSo before now xs front ys → Takes (Declared now) ys d ws
    → text ≡ d.name → (now text ≡ false → new ≡ with_name now text) → AtMark semicolon ws (Some (m, zs))
    → Takes (NamesTypes before) xs (front ++ d ∷ [], new) zs
typedefs_done before now new xs front ys ws zs m text d s t e a k =
    let t' : Takes (Declared now) ys d (mark m k.0 ∷ zs) = rw k.2 at t in
    let n : new ≡ with_name now d.name = a (ap now e ∙ was_none t.holds) ∙ ap (λ (x : List ℕ). with_name now x) e in
    rw n (record {
      holds = s.forth (with_name now d.name) zs (d ∷ []) (last_typedef k.1 t'.holds);
      only = λ u us f. (
          let q = s.back u.1 us u.0 f in
          let r = at_last front k.1 t' q.1 q.2 in
          (pair_is u (front ++ d ∷ []) (with_name now d.name) r.0 r.1, r.2));
    })

item_never : {now after : List ℕ → Bool} {ys zs : List Tok} {ds : List Declarator} → TakesNone (Declared now) ys
    → Typedefs now after ys zs ds → ⊥
item_never n (last_typedef {l = l} {c = c} {ys = ys} {d = d} h f) = n.never d (mark l c ∷ ys) f
item_never n (next_typedef {l = l} {c = c} {ys = ys} {d = d} h f g) = n.never d (mark l c ∷ ys) f

pub item_refused : (before now : List ℕ → Bool) (xs : List Tok) (front : List Declarator) (ys : List Tok)
    → TypedefsSo before now xs front ys → TakesNone (Declared now) ys → TakesNone (NamesTypes before) xs
item_refused before now xs front ys s n = record { never = λ u zs f. (let q = s.back u.1 zs u.0 f in item_never n q.2) }

gap_never : {now after : List ℕ → Bool} {ys ws zs : List Tok} {d : Declarator} {ds : List Declarator}
    → Takes (Declared now) ys d ws → Lacks semicolon ws → Lacks comma ws → Typedefs now after ys zs ds → ⊥
gap_never {ws = ws} t n o (last_typedef {l = l} {c = c} {ys = ys} {d = d} h f) = let q = t.only d (mark l c ∷ ys) f in
    lacks_is l c semicolon ws ys n (sym q.1) h
gap_never {ws = ws} t n o (next_typedef {l = l} {c = c} {ys = ys} {d = d} h f g) = let q = t.only d (mark l c ∷ ys) f in
    lacks_is l c comma ws ys o (sym q.1) h

pub gap_refused : (before now : List ℕ → Bool) (xs : List Tok) (front : List Declarator) (ys ws : List Tok)
    (d : Declarator) → TypedefsSo before now xs front ys → Takes (Declared now) ys d ws → Lacks semicolon ws
    → Lacks comma ws
    → TakesNone (NamesTypes before) xs
gap_refused before now xs front ys ws d s t n o =
    record { never = λ u zs f. (let q = s.back u.1 zs u.0 f in gap_never t n o q.2) }
