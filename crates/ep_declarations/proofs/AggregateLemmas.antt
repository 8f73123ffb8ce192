-- The next word, by how it begins: a `struct` or `union` with its members, `static` or `inline`, or a word of a type.
use Rattle.std.proofs.Common.{◌≡◌, ℕ, Bool, true, false, List, ◌∷◌, Option, Some, None, refl, sym, ap, subst, ◌∙◌}
use Rattle.std.proofs.Common.{arith}
use Rattle.std.specs.Prelude.{◌==◌, ◌&&◌, Err}
use Rattle.std.proofs.lemmas.Bool.Decides.{nat_tests}
use Rattle.ep_ast.specs.Token.{Tok, word, name, mark}
use Rattle.ep_ast.specs.Expression as expressions
use Rattle.ep_ast.specs.Expression.{TypeWord}
use Rattle.ep_ast.specs.Declaration.{Spec, plain, body, aggregate, Aggregate, Member, to_members}
use Rattle.ep_ast.specs.Mark.{left_brace}
use Rattle.ep_ast.specs.TypeWords.{Bag, with_word, with_whole, joined, fits, is_type_word, is_tag_word, OneWord}
use Rattle.ep_ast.specs.TypeWords.{plain_word, tag as tag_name, begins_type}
use Rattle.ep_ast.specs.DeclarationGrammar.{Context, has_bodies, has_storage, is_storage_word, begins_spec, type_word}
use Rattle.ep_ast.specs.DeclarationGrammar.{storage, with_members, Aggregated, tagged, untagged, Members}
use Rattle.ep_ast.specs.Reading.{Takes, TakesNone, Stops, Lacks, AtMark}
use Rattle.ep_ast.specs.declared.refusals.Halt.{Halt}
use Rattle.ep_ast.specs.declared.refusals.Halt.TheVariants as halts
use Rattle.ep_type_names.specs.Words.{OneRead}
use Rattle.ep_type_names.proofs.TypeWordLemmas.{apart, one_begins}
use Rattle.ep_declarations.specs.SpecAhead.{Ahead, over, fitting, begins_storage, begins_body, Opens}
use Rattle.ep_declarations.proofs.SpecLemmas.{tag_begins, type_begins, begins_neither, one_spec_begins}

-- ---- words of different kinds

storage_no_tag : (c : ℕ) → is_storage_word c ≡ true → is_tag_word c ≡ true → ⊥
storage_no_tag c h k = grind (arith, nat_tests)

storage_no_type : (c : ℕ) → is_storage_word c ≡ true → is_type_word c ≡ true → ⊥
storage_no_type c h k = grind (arith, nat_tests)

storage_joins : (c : ℕ) (b : Bag) → is_storage_word c ≡ true → with_word b c ≡ b
storage_joins c b h = grind (arith, nat_tests)

pub storage_bag : (c : ℕ) (b : Bag) → is_storage_word c ≡ true → fits b ≡ true
    → (b ≡ with_word b c) × (fits (with_word b c) ≡ true)
storage_bag c b h f = (sym (storage_joins c b h), rw (storage_joins c b h) f)

body_test : (c d : ℕ) → is_tag_word c ≡ true → d ≡ left_brace → (is_tag_word c && d == left_brace) ≡ true
body_test c d h e = rw (h, e) refl

storage_test : (k : Context) (c : ℕ) → has_storage k ≡ true → is_storage_word c ≡ true
    → (has_storage k && is_storage_word c) ≡ true
storage_test k c h i = rw (h, i) refl

module _ (N : List ℕ → Bool) where
  -- ---- behind the brace

  opens_aggregated : (l c : ℕ) (tag : Option (List ℕ)) (us ts zs : List Tok) (ms : List Member) → Opens l c tag us ts
      → Members N us zs ms → Aggregated N ts zs (aggregate l c tag (to_members ms))
  opens_aggregated l c None us ts zs ms o d = rw o.4 (untagged o.3 o.2 d)
  opens_aggregated l c (Some text) us ts zs ms o d = rw o.5 (tagged o.4 o.3 d)

  -- what reads such a beginning
  pub record Within (k : Context) (b : Bag) (l c : ℕ) (tag : Option (List ℕ)) (us zs : List Tok) (o : Option Spec) : Type
      0 where
    pub all : List Member
    pub is : o ≡ Some (body (aggregate l c tag (to_members all)))
    pub may : has_bodies k ≡ true
    pub fit : fits (with_whole b) ≡ true
    pub inside : Members N us zs all

  untagged_ahead : {k : Context} {b : Bag} {l c p d : ℕ} {us zs : List Tok} {o : Option Spec} → is_tag_word c ≡ true
      → Ahead N k b (word l c ∷ mark p d ∷ us) zs o → Within k b l c None us zs o
  untagged_ahead {k = k} {c = c} h (over n) = let g = tag_begins c (has_storage k && is_storage_word c) h in absurd cc
  untagged_ahead {c = c} h (fitting (type_word (plain_word w) n) f) = absurd (apart c w h)
  untagged_ahead {c = c} h (fitting (storage i j) f) = absurd (storage_no_tag c j h)
  untagged_ahead h (fitting (with_members i (untagged {ms = ms} t d m)) f) =
      record { all = ms; is = refl; may = i; fit = f; inside = m }

  tagged_ahead : {k : Context} {b : Bag} {l c n p d : ℕ} {text : List ℕ} {us zs : List Tok} {o : Option Spec}
      → is_tag_word c ≡ true → d ≡ left_brace → Ahead N k b (word l c ∷ name n text ∷ mark p d ∷ us) zs o
      → Within k b l c (Some text) us zs o
  tagged_ahead {k = k} {c = c} h e (over n) = let g = tag_begins c (has_storage k && is_storage_word c) h in absurd cc
  tagged_ahead {c = c} h e (fitting (type_word (plain_word w) n) f) = absurd (apart c w h)
  tagged_ahead {c = c} h e (fitting (type_word (tag_name w) n) f) = absurd (n e)
  tagged_ahead {c = c} h e (fitting (storage i j) f) = absurd (storage_no_tag c j h)
  tagged_ahead h e (fitting (with_members i (tagged {ms = ms} t d m)) f) =
      record { all = ms; is = refl; may = i; fit = f; inside = m }

  within : (k : Context) (b : Bag) (l c : ℕ) (tag : Option (List ℕ)) (us ts zs : List Tok) (o : Option Spec)
      → Opens l c tag us ts → Ahead N k b ts zs o → Within k b l c tag us zs o
  within k b l c None us ts zs o e d = untagged_ahead e.3 (rw e.4 at d)
  within k b l c (Some text) us ts zs o e d = tagged_ahead e.4 e.3 (rw e.5 at d)

  body_is : (l c : ℕ) (tag : Option (List ℕ)) (ms ns : List Member) → ns ≡ ms
      → Some (body (aggregate l c tag (to_members ns))) ≡ Some (body (aggregate l c tag (to_members ms)))
  body_is l c tag ms ns e = ap (λ (xs : List Member). Some (body (aggregate l c tag (to_members xs)))) e

  pub body_taken : (k : Context) (b : Bag) (l c : ℕ) (tag : Option (List ℕ)) (us ts zs : List Tok) (ms : List Member)
      → Opens l c tag us ts → has_bodies k ≡ true → fits (with_whole b) ≡ true → Takes (Members N) us ms zs
      → Takes (Ahead N k b) ts (Some (body (aggregate l c tag (to_members ms)))) zs
  body_taken k b l c tag us ts zs ms o h f t = record {
    holds = fitting (with_members h (opens_aggregated l c tag us ts zs ms o t.holds)) f;
    only = λ u vs d. let w = within k b l c tag us ts vs u o d in let q = t.only w.all vs w.inside in
        (w.is ∙ body_is l c tag ms w.all q.0, q.1);
  }

  pub body_none : (k : Context) (b : Bag) (l c : ℕ) (tag : Option (List ℕ)) (us ts : List Tok) → Opens l c tag us ts
      → TakesNone (Members N) us → TakesNone (Ahead N k b) ts
  body_none k b l c tag us ts o t =
      record { never = λ u vs d. let w = within k b l c tag us ts vs u o d in t.never w.all vs w.inside }

  pub no_bodies : (k : Context) (b : Bag) (l c : ℕ) (tag : Option (List ℕ)) (us ts : List Tok) → Opens l c tag us ts
      → has_bodies k ≡ false → TakesNone (Ahead N k b) ts
  no_bodies k b l c tag us ts o h =
      record { never = λ u vs d. let w = within k b l c tag us ts vs u o d in let g = w.may in cc }

  pub unfit_body : (k : Context) (b : Bag) (l c : ℕ) (tag : Option (List ℕ)) (us ts : List Tok) → Opens l c tag us ts
      → fits (with_whole b) ≡ false → TakesNone (Ahead N k b) ts
  unfit_body k b l c tag us ts o h =
      record { never = λ u vs d. let w = within k b l c tag us ts vs u o d in let g = w.fit in cc }

  -- ---- where no such beginning stands

  aggregated_begins : {ts zs : List Tok} {a : Aggregate} → Aggregated N ts zs a → begins_body ts ≡ true
  aggregated_begins (tagged {c = c} {d = d} t e m) = body_test c d t e
  aggregated_begins (untagged {c = c} {d = d} t e m) = body_test c d t e

  storage_only : {k : Context} {b : Bag} {l c : ℕ} {us zs : List Tok} {o : Option Spec}
      → begins_body (word l c ∷ us) ≡ false → has_storage k ≡ true → is_storage_word c ≡ true
      → Ahead N k b (word l c ∷ us) zs o
      → (o ≡ Some (plain (expressions.word l c))) × (zs ≡ us)
  storage_only {k = k} {l = l} {c = c} {us = us} p h i (over n) =
      let g = one_spec_begins N (storage {k = k} {l = l} {c = c} {xs = us} h i) in absurd cc
  storage_only {c = c} p h i (fitting (type_word (plain_word w) n) f) = absurd (storage_no_type c i w)
  storage_only {c = c} p h i (fitting (type_word (tag_name w) n) f) = absurd (storage_no_tag c i w)
  storage_only p h i (fitting (storage j e) f) = (refl, refl)
  storage_only p h i (fitting (with_members j a) f) = let g = aggregated_begins a in absurd cc

  pub storage_taken : (k : Context) (b : Bag) (l c : ℕ) (us ts : List Tok) → begins_body ts ≡ false
      → has_storage k ≡ true → is_storage_word c ≡ true → ts ≡ word l c ∷ us → fits b ≡ true
      → Takes (Ahead N k b) ts (Some (plain (expressions.word l c))) us
  storage_taken k b l c us ts p h i e f =
      let g : fits (with_word b c) ≡ true = rw (storage_joins c b i) f in
      let p' : begins_body (word l c ∷ us) ≡ false = rw e at p in
      rw e (record { holds = fitting (storage h i) g; only = λ u vs d. storage_only p' h i d })

  no_word_only : {k : Context} {b : Bag} {ts zs : List Tok} {o : Option Spec} → begins_spec N k ts ≡ false
      → Ahead N k b ts zs o → (o ≡ None) × (zs ≡ ts)
  no_word_only n (over m) = (refl, refl)
  no_word_only n (fitting d f) = let g = one_spec_begins N d in absurd cc

  pub no_word : (k : Context) (b : Bag) (ts : List Tok) → begins_type N ts ≡ false → begins_storage k ts ≡ false
      → Takes (Ahead N k b) ts None ts
  no_word k b ts h i = let n = begins_neither N k ts h i in record { holds = over n; only = λ u vs d. no_word_only n d }

  -- what reads a word of a type
  pub record Alone (b : Bag) (ts zs : List Tok) (o : Option Spec) : Type 0 where
    pub one : TypeWord
    pub is : o ≡ Some (plain one)
    pub reads : OneWord N ts zs one
    pub lacks : Lacks left_brace zs
    pub fit : fits (joined b one) ≡ true

  alone : {k : Context} {b : Bag} {ts zs : List Tok} {o : Option Spec} → begins_body ts ≡ false
      → begins_storage k ts ≡ false → begins_type N ts ≡ true → Ahead N k b ts zs o → Alone b ts zs o
  alone {k = k} {ts = ts} p s h (over n) = let g = type_begins N k ts h in absurd cc
  alone p s h (fitting (type_word {w = w} d n) f) = record { one = w; is = refl; reads = d; lacks = n; fit = f }
  alone {k = k} p s h (fitting (storage {c = c} i j) f) = let g = storage_test k c i j in absurd cc
  alone p s h (fitting (with_members j a) f) = let g = aggregated_begins a in absurd cc

  plain_is : (w v : TypeWord) → v ≡ w → Some (plain v) ≡ Some (plain w)
  plain_is w v e = ap (λ (u : TypeWord). Some (plain u)) e

  pub word_taken : (k : Context) (b : Bag) (ts us : List Tok) (w : TypeWord) → begins_body ts ≡ false
      → begins_storage k ts ≡ false → Takes (OneWord N) ts w us → Lacks left_brace us → fits (joined b w) ≡ true
      → Takes (Ahead N k b) ts (Some (plain w)) us
  word_taken k b ts us w p s t n f = record {
    holds = fitting (type_word t.holds n) f;
    only = λ u vs d. let a = alone p s (one_begins N t.holds) d in let q = t.only a.one vs a.reads in
        (a.is ∙ plain_is w a.one q.0, q.1);
  }

  lacks_at : (us vs : List Tok) (l : ℕ) → AtMark left_brace us (Some (l, vs)) → Lacks left_brace us → ⊥
  lacks_at us vs l k n = let L : List Tok → Type 0 = λ ts. Lacks left_brace ts in
      let h : Lacks left_brace (mark l k.0 ∷ vs) = subst L k.2 n in h k.1

  pub word_braced : (k : Context) (b : Bag) (ts us vs : List Tok) (w : TypeWord) (l : ℕ) → begins_body ts ≡ false
      → begins_storage k ts ≡ false → Takes (OneWord N) ts w us → AtMark left_brace us (Some (l, vs))
      → TakesNone (Ahead N k b) ts
  word_braced k b ts us vs w l p s t n = record {
    never = λ u zs d. let a = alone p s (one_begins N t.holds) d in let q = t.only a.one zs a.reads in
        lacks_at us vs l n (rw q.1 at a.lacks);
  }

  pub word_unfit : (k : Context) (b : Bag) (ts us : List Tok) (w : TypeWord) → begins_body ts ≡ false
      → begins_storage k ts ≡ false → Takes (OneWord N) ts w us → fits (joined b w) ≡ false
      → TakesNone (Ahead N k b) ts
  word_unfit k b ts us w p s t n = record {
    never = λ u zs d. let a = alone p s (one_begins N t.holds) d in let q = t.only a.one zs a.reads in
        let f : fits (joined b w) ≡ true = rw q.0 at a.fit in cc;
  }

  word_stuck : (k : Context) (b : Bag) (ts : List Tok) → begins_body ts ≡ false → begins_storage k ts ≡ false
      → TakesNone (OneWord N) ts → begins_type N ts ≡ true → TakesNone (Ahead N k b) ts
  word_stuck k b ts p s n h = record { never = λ u zs d. let a = alone p s h d in n.never a.one zs a.reads }

  pub word_halts : (k : Context) (b : Bag) (ts : List Tok) (e : Halt) → begins_body ts ≡ false
      → begins_storage k ts ≡ false → OneRead N ts (Err e) → Stops (Ahead N k b) ts e
  word_halts k b ts (halts.Refused f) p s h = (word_stuck k b ts p s h.0 h.1, h.2)
  word_halts k b ts halts.Memory p s h = tt
