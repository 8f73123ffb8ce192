-- Reading the words that begin a declaration, one after the other.
use Rattle.std.proofs.Common.{◌≡◌, ℕ, Bool, true, false, List, [], ◌∷◌, ◌++◌, Some, None, refl, sym, ap, ◌∙◌}
use Rattle.ep_type_names.proofs.TypeWordLemmas.{are_type, is_not}
use Rattle.ep_int.proofs.Basics.{some-injective}
use Rattle.std.proofs.lemmas.Bool.{and_parts, or_from, or_left, or_right}
use Rattle.std.proofs.Common.{append_assoc}
use Rattle.std.specs.Prelude.{◌&&◌, ◌||◌, not}
use Rattle.std.proofs.lemmas.List.{append-nil}
use Rattle.ep_ast.specs.Token.{Tok, word, name, number, mark, if_little, if_big, other, end_if}
use Rattle.ep_ast.specs.Declaration.{Spec, plain, body}
use Rattle.ep_ast.specs.TypeWords.{Bag, no_bag, fits, is_no_bag, is_type_word, is_tag_word, begins_type}
use Rattle.ep_ast.specs.DeclarationGrammar.{Context, has_storage, is_storage_word, spec_joined, specs_joined}
use Rattle.ep_ast.specs.DeclarationGrammar.{name_type, begins_spec, OneSpec, type_word, storage, with_members, Specs}
use Rattle.ep_ast.specs.DeclarationGrammar.{no_specs, more_specs, Specified, specified, tagged, untagged}
use Rattle.ep_ast.specs.Reading.{Takes, TakesNone}
use Rattle.ep_type_names.proofs.TypeWordLemmas.{less_joined, less_whole, one_begins}
use Rattle.ep_declarations.specs.SpecAhead as ahead
use Rattle.ep_declarations.specs.SpecAhead.{Ahead, over, fitting}

-- ---- bags

pub fits_is : (b c : Bag) → c ≡ b → fits c ≡ true → fits b ≡ true
fits_is b c e f = rw (← e) f

less_spec : (b : Bag) (s : Spec) → fits (spec_joined b s) ≡ true → fits b ≡ true
less_spec b (plain w) h = less_joined b w h
less_spec b (body a) h = less_whole b h

less_specs : (ss : List Spec) (b : Bag) → fits (specs_joined b ss) ≡ true → fits b ≡ true
less_specs [] b h = h
less_specs (s ∷ ss) b h = less_spec b s (less_specs ss (spec_joined b s) h)

specs-append : (xs ys : List Spec) (b : Bag) → specs_joined b (xs ++ ys) ≡ specs_joined (specs_joined b xs) ys
specs-append [] ys b = refl
specs-append (x ∷ xs) ys b = specs-append xs ys (spec_joined b x)

specs-last : (b : Bag) (xs : List Spec) (s : Spec) → b ≡ specs_joined no_bag xs
    → spec_joined b s ≡ specs_joined no_bag (xs ++ s ∷ [])
specs-last b xs s e = ap (λ (c : Bag). spec_joined c s) e ∙ sym (specs-append xs (s ∷ []) no_bag)

-- where all the words fit, so does each behind those before it
fits_next : (front more ss : List Spec) (s : Spec) (b : Bag) → b ≡ specs_joined no_bag front → ss ≡ front ++ s ∷ more
    → fits (specs_joined no_bag ss) ≡ true → fits (spec_joined b s) ≡ true
fits_next front more ss s b j e h =
    let f : fits (specs_joined no_bag (front ++ s ∷ more)) ≡ true = rw (← e) h in
    let g : fits (specs_joined (specs_joined no_bag front) (s ∷ more)) ≡ true =
    rw (← specs-append front (s ∷ more) no_bag) f in
    rw j (less_specs more (spec_joined (specs_joined no_bag front) s) g)

type_fits : (ss : List Spec) → name_type ss ≡ true → fits (specs_joined no_bag ss) ≡ true
type_fits ss h = (and_parts (fits (specs_joined no_bag ss)) (not (is_no_bag (specs_joined no_bag ss))) h).0

type_some : (ss : List Spec) → name_type ss ≡ true → is_no_bag (specs_joined no_bag ss) ≡ true → ⊥
type_some ss h k =
    is_not (is_no_bag (specs_joined no_bag ss))
    (and_parts (fits (specs_joined no_bag ss)) (not (is_no_bag (specs_joined no_bag ss))) h).1 k

-- ---- beginnings

pub tag_begins : (c : ℕ) (b : Bool) → is_tag_word c ≡ true → ((is_type_word c || is_tag_word c) || b) ≡ true
tag_begins c b h = or_left (is_type_word c || is_tag_word c) b (or_right (is_type_word c) (is_tag_word c) h)

module _ (N : List ℕ → Bool) where
  pub type_begins : (k : Context) (ts : List Tok) → begins_type N ts ≡ true → begins_spec N k ts ≡ true
  type_begins k [] h = h
  type_begins k (word l c ∷ ts) h = or_left (is_type_word c || is_tag_word c) (has_storage k && is_storage_word c) h
  type_begins k (name l c ∷ ts) h = h
  type_begins k (number l c ∷ ts) h = h
  type_begins k (mark l c ∷ ts) h = h
  type_begins k (if_little l ∷ ts) h = h
  type_begins k (if_big l ∷ ts) h = h
  type_begins k (other l ∷ ts) h = h
  type_begins k (end_if l ∷ ts) h = h

  pub begins_neither : (k : Context) (ts : List Tok) → begins_type N ts ≡ false → ahead.begins_storage k ts ≡ false
      → begins_spec N k ts ≡ false
  begins_neither k [] h e = h
  begins_neither k (word l c ∷ ts) h e =
      or_from (is_type_word c || is_tag_word c) (has_storage k && is_storage_word c) h e
  begins_neither k (name l c ∷ ts) h e = h
  begins_neither k (number l c ∷ ts) h e = h
  begins_neither k (mark l c ∷ ts) h e = h
  begins_neither k (if_little l ∷ ts) h e = h
  begins_neither k (if_big l ∷ ts) h e = h
  begins_neither k (other l ∷ ts) h e = h
  begins_neither k (end_if l ∷ ts) h e = h

  storage_begins : (k : Context) (l c : ℕ) (ts : List Tok) → has_storage k ≡ true → is_storage_word c ≡ true
      → begins_spec N k (word l c ∷ ts) ≡ true
  storage_begins k l c ts h i =
      or_right (is_type_word c || is_tag_word c) (has_storage k && is_storage_word c) (rw (h, i) refl)

  pub one_spec_begins : {k : Context} {xs ys : List Tok} {s : Spec} → OneSpec N k xs ys s → begins_spec N k xs ≡ true
  one_spec_begins (type_word {k = k} {xs = xs} d h) = type_begins k xs (one_begins N d)
  one_spec_begins (storage {k = k} {l = l} {c = c} {xs = xs} h i) = storage_begins k l c xs h i
  one_spec_begins (with_members {k = k} h (tagged {c = c} t d m)) = tag_begins c (has_storage k && is_storage_word c) t
  one_spec_begins (with_members {k = k} h (untagged {c = c} t d m)) =
      tag_begins c (has_storage k && is_storage_word c) t

  pub not_specified : {k : Context} {xs ys : List Tok} {ss : List Spec} → begins_spec N k xs ≡ false
      → Specified N k xs ys ss → ⊥
  not_specified n (specified h (no_specs m)) = cc
  not_specified n (specified h (more_specs d r)) = let g = one_spec_begins d in cc

  -- ---- words

  -- these are read, and what comes are words again
  pub record SpecsSo (k : Context) (xs : List Tok) (front : List Spec) (b : Bag) (ys : List Tok) : Type 0 where
    pub forth : (zs : List Tok) (ss : List Spec) → Specs N k ys zs ss → Specs N k xs zs (front ++ ss)
    pub back : (zs : List Tok) (ss : List Spec) → Specs N k xs zs ss → fits (specs_joined no_bag ss) ≡ true
        → (more : List Spec) × (ss ≡ front ++ more) × Specs N k ys zs more
    pub joined : b ≡ specs_joined no_bag front

  pub specs_begin : (k : Context) (xs : List Tok) → SpecsSo k xs [] no_bag xs
  specs_begin k xs = record { forth = λ zs ss d. d; back = λ zs ss d h. (ss, refl, d); joined = refl }

  one_more : (front : List Spec) {k : Context} {b : Bag} {ys us zs : List Tok} {s : Spec} {ss rest : List Spec}
      → Takes (Ahead N k b) ys (Some s) us → b ≡ specs_joined no_bag front → ss ≡ front ++ rest → Specs N k ys zs rest
      → fits (specs_joined no_bag ss) ≡ true
      → (more : List Spec) × (ss ≡ (front ++ s ∷ []) ++ more) × Specs N k us zs more
  one_more front {ys = ys} t j e (no_specs n) h = let q = t.only None ys (over n) in absurd cc
  one_more front {b = b} {s = s} {ss = ss} t j e (more_specs {ys = ys'} {s = s'} {ss = ss'} d r) h =
      let q = t.only (Some s') ys' (fitting d (fits_next front ss' ss s' b j e h)) in (
        ss',
        e ∙ ap (λ (x : Spec). front ++ x ∷ ss') (some-injective q.0) ∙ sym (append_assoc front (s ∷ []) ss'),
        rw (← q.1) r,
      )

  one_forth : {k : Context} {b : Bag} {ys us zs : List Tok} {s : Spec} {ss : List Spec} → Ahead N k b ys us (Some s)
      → Specs N k us zs ss → Specs N k ys zs (s ∷ ss)
  one_forth (fitting d f) r = more_specs d r

  pub specs_step : (k : Context) (xs : List Tok) (front : List Spec) (b : Bag) (ys us : List Tok) (s : Spec)
      → SpecsSo k xs front b ys → Takes (Ahead N k b) ys (Some s) us
      → SpecsSo k xs (front ++ s ∷ []) (spec_joined b s) us
  specs_step k xs front b ys us s o t = record {
    forth = λ zs ss d. rw append_assoc (o.forth zs (s ∷ ss) (one_forth t.holds d));
    back = λ zs ss d h. let q = o.back zs ss d h in one_more front t o.joined q.1 q.2 h;
    joined = specs-last b front s o.joined;
  }

  words_over : {k : Context} {b : Bag} {ys us : List Tok} → Ahead N k b ys us None → begins_spec N k ys ≡ false
  words_over (over n) = n

  no_more : {k : Context} {ys zs : List Tok} {ss : List Spec} → begins_spec N k ys ≡ false → Specs N k ys zs ss
      → (ss ≡ []) × (zs ≡ ys)
  no_more n (no_specs m) = (refl, refl)
  no_more n (more_specs d r) = let h = one_spec_begins d in absurd cc

  specs_only : (front : List Spec) {k : Context} {b : Bag} {xs ys zs : List Tok} {ss : List Spec}
      → SpecsSo k xs front b ys → begins_spec N k ys ≡ false → Specified N k xs zs ss → (ss ≡ front) × (zs ≡ ys)
  specs_only front o n (specified {ys = zs} {ss = ss} h d) =
      let q = o.back zs ss d (type_fits ss h) in
      let r = no_more n q.2 in
      (q.1 ∙ ap (λ (us : List Spec). front ++ us) r.0 ∙ append-nil front, r.1)

  pub specs_taken : (k : Context) (xs : List Tok) (front : List Spec) (b : Bag) (ys us : List Tok)
      → SpecsSo k xs front b ys → Takes (Ahead N k b) ys None us → fits b ≡ true → is_no_bag b ≡ false
      → Takes (Specified N k) xs front ys
  specs_taken k xs front b ys us o t f e =
      let n : begins_spec N k ys ≡ false = words_over t.holds in
      let d : Specs N k xs ys front = rw append-nil at (o.forth ys [] (no_specs n)) in
      let h : name_type front ≡ true = are_type (specs_joined no_bag front) (rw o.joined at f) (rw o.joined at e) in
      record { holds = specified h d; only = λ ss zs r. specs_only front o n r }

  none_never : (front : List Spec) {k : Context} {b : Bag} {xs ys zs : List Tok} {ss : List Spec}
      → SpecsSo k xs front b ys → begins_spec N k ys ≡ false → is_no_bag (specs_joined no_bag front) ≡ true
      → Specified N k xs zs ss → ⊥
  none_never front o n e (specified {ss = ss} h d) = let q = specs_only front o n (specified h d) in
      type_some ss h (rw q.0 e)

  -- no word is there but `const`, `static` and `inline`
  pub specs_none : (k : Context) (xs : List Tok) (front : List Spec) (b : Bag) (ys us : List Tok)
      → SpecsSo k xs front b ys → Takes (Ahead N k b) ys None us → is_no_bag b ≡ true
      → TakesNone (Specified N k) xs
  specs_none k xs front b ys us o t e =
      let n : begins_spec N k ys ≡ false = words_over t.holds in
      record { never = λ ss zs d. none_never front o n (rw o.joined at e) d }

  stuck : (front ss : List Spec) {k : Context} {b : Bag} {rest : List Spec} {ys zs : List Tok}
      → TakesNone (Ahead N k b) ys → b ≡ specs_joined no_bag front → ss ≡ front ++ rest
      → fits (specs_joined no_bag ss) ≡ true → Specs N k ys zs rest → ⊥
  stuck front ss n j e h (no_specs {xs = xs} m) = n.never None xs (over m)
  stuck front ss {b = b} n j e h (more_specs {ys = ys} {s = s} {ss = ss'} d r) =
      n.never (Some s) ys (fitting d (fits_next front ss' ss s b j e h))

  stuck_never : (front : List Spec) {k : Context} {b : Bag} {xs ys zs : List Tok} {ss : List Spec}
      → SpecsSo k xs front b ys → TakesNone (Ahead N k b) ys → Specified N k xs zs ss → ⊥
  stuck_never front o n (specified {ys = zs} {ss = ss} h d) = let q = o.back zs ss d (type_fits ss h) in
      stuck front ss n o.joined q.1 (type_fits ss h) q.2

  -- a word begins here and can't be read
  pub specs_stuck : (k : Context) (xs : List Tok) (front : List Spec) (b : Bag) (ys : List Tok)
      → SpecsSo k xs front b ys → TakesNone (Ahead N k b) ys → TakesNone (Specified N k) xs
  specs_stuck k xs front b ys o n = record { never = λ ss zs d. stuck_never front o n d }
