-- Entries come to a body, each under a name that is new.
use Rattle.std.proofs.Common.{◌≡◌, ℕ, Bool, true, false, ◌||◌, not, cond, List, [], ◌∷◌, ◌++◌, map, length, take}
use Rattle.std.proofs.Common.{bytes_eq, Option, Some, None, refl, sym, ap, ◌∙◌, subst}
use Rattle.std.proofs.Math.Seq.{take-append_seam}
use Rattle.std.proofs.lemmas.Bool.{and_from, and_parts, or_parts}
use Rattle.std.proofs.lemmas.List.{map_push}
use Rattle.std.proofs.lemmas.List.Folds.{list_any-append}
use Rattle.std.proofs.lemmas.Slice.Eq.{bytes_eq-Decides}
use Rattle.std.specs.Global.{Vec}
use Rattle.std.specs.List.{list_any}
use Rattle.indexmap.specs.IndexSet.{insert_key}
use Rattle.ep_int.proofs.Basics.{bytes_eq-equal}
use Rattle.ep_bitfield.specs.Units.{are_entries, is_entry}
use Rattle.ep_elaboration.specs.Aggregates as rule
use Rattle.ep_declared.specs.declared.entries.Entry.{Entry}
use Rattle.ep_declared.specs.Entries.{are_distinct, entry, name_of, AreNamed}

-- ---- names

pub bytes_eq-itself : (t : List ℕ) → bytes_eq t t ≡ true
bytes_eq-itself t = (bytes_eq-Decides t t).1 refl

swapped_at : (t u : List ℕ) (b c : Bool) → bytes_eq t u ≡ b → bytes_eq u t ≡ c → b ≡ c
swapped_at t u true true e f = refl
swapped_at t u false false e f = refl
swapped_at t u true false e f =
    let s : t ≡ u = bytes_eq-equal t u e in
    sym (bytes_eq-itself t) ∙ ap (λ (x : List ℕ). bytes_eq x t) s ∙ f
swapped_at t u false true e f =
    let s : u ≡ t = bytes_eq-equal u t f in
    sym e ∙ ap (λ (x : List ℕ). bytes_eq x u) (sym s) ∙ bytes_eq-itself u

swapped : (t u : List ℕ) → bytes_eq t u ≡ bytes_eq u t
swapped t u = swapped_at t u (bytes_eq t u) (bytes_eq u t) refl refl

-- a name that may be missing is this one
abbrev pub is_name : Option (List ℕ) → List ℕ → Bool
is_name None t = false
is_name (Some n) t = bytes_eq t n

pub named_is : (t : List ℕ) (e : rule.Entry) → rule.is_named t e ≡ is_name (name_of e) t
named_is t (rule.a_member n ty) = refl
named_is t (rule.a_field None ty u w) = refl
named_is t (rule.a_field (Some n) ty u w) = refl

one_more : (a b : Bool) → (a || (b || false)) ≡ (a || b)
one_more true b = refl
one_more false true = refl
one_more false false = refl

pub declared_put : (t : List ℕ) (es : rule.Named) (x : rule.Entry)
    → rule.is_declared t (es ++ x ∷ []) ≡ (rule.is_declared t es || rule.is_named t x)
declared_put t es x =
    list_any-append (rule.is_named t) es (x ∷ []) ∙ one_more (rule.is_declared t es) (rule.is_named t x)

-- ---- no name stands twice

taken_nowhere : (o : Option (List ℕ)) → rule.is_taken_name o [] ≡ false
taken_nowhere None = refl
taken_nowhere (Some n) = refl

-- the name of the one that is new is another
other : (t : List ℕ) (e x : rule.Entry) (es : rule.Named) → name_of e ≡ Some t
    → rule.is_taken_name (name_of x) (e ∷ es) ≡ false → rule.is_named t x ≡ false
other t e x es p h = named_is t x ∙ of (name_of x) h
  where
    of : (o : Option (List ℕ)) → rule.is_taken_name o (e ∷ es) ≡ false → is_name o t ≡ false
    of None h = refl
    of (Some n) h =
        let parts = or_parts (rule.is_named n e) (rule.is_declared n es) h in
        swapped t n ∙ sym (ap (λ (o : Option (List ℕ)). is_name o n) p) ∙ sym (named_is n e) ∙ parts.0

taken_behind : (o : Option (List ℕ)) (e : rule.Entry) (es : rule.Named) → rule.is_taken_name o (e ∷ es) ≡ false
    → rule.is_taken_name o es ≡ false
taken_behind None e es h = refl
taken_behind (Some n) e es h = (or_parts (rule.is_named n e) (rule.is_declared n es) h).1

taken_put : (o : Option (List ℕ)) (es : rule.Named) (x : rule.Entry) → rule.is_taken_name o es ≡ false
    → ((t : List ℕ) → o ≡ Some t → rule.is_named t x ≡ false) → rule.is_taken_name o (es ++ x ∷ []) ≡ false
taken_put None es x h p = refl
taken_put (Some t) es x h p = declared_put t es x ∙ neither (rule.is_declared t es) (rule.is_named t x) h (p t refl)
  where
    neither : (a b : Bool) → a ≡ false → b ≡ false → (a || b) ≡ false
    neither true b e f = e
    neither false b e f = f

not_true : (b : Bool) → not b ≡ true → b ≡ false
not_true true h = absurd cc
not_true false h = refl

pub distinct_put : (es : rule.Named) (x : rule.Entry) → are_distinct es ≡ true
    → rule.is_taken_name (name_of x) es ≡ false → are_distinct (es ++ x ∷ []) ≡ true
distinct_put [] x h k = and_from (not (rule.is_taken_name (name_of x) [])) true (ap not (taken_nowhere (name_of x))) refl
distinct_put (e ∷ es) x h k =
    let p = and_parts (not (rule.is_taken_name (name_of e) es)) (are_distinct es) h in
    and_from (not (rule.is_taken_name (name_of e) (es ++ x ∷ []))) (are_distinct (es ++ x ∷ []))
    (ap not (taken_put (name_of e) es x (not_true (rule.is_taken_name (name_of e) es) p.0) (λ t q. other t e x es q k)))
    (distinct_put es x p.1 (taken_behind (name_of x) e es k))

pub first_distinct : (e : rule.Entry) (es : rule.Named) → are_distinct (e ∷ es) ≡ true
    → rule.is_taken_name (name_of e) es ≡ false
first_distinct e es h =
    not_true (rule.is_taken_name (name_of e) es)
    (and_parts (not (rule.is_taken_name (name_of e) es)) (are_distinct es) h).0

pub rest_distinct : (e : rule.Entry) (es : rule.Named) → are_distinct (e ∷ es) ≡ true → are_distinct es ≡ true
rest_distinct e es h = (and_parts (not (rule.is_taken_name (name_of e) es)) (are_distinct es) h).1

-- ---- each can lie in a unit

fit_put : (es : rule.Named) (x : rule.Entry) → are_entries (map rule.packed_as es) ≡ true
    → is_entry (rule.packed_as x) ≡ true → are_entries (map rule.packed_as (es ++ x ∷ [])) ≡ true
fit_put [] x h k = and_from (is_entry (rule.packed_as x)) true k refl
fit_put (e ∷ es) x h k =
    let p = and_parts (is_entry (rule.packed_as e)) (are_entries (map rule.packed_as es)) h in
    and_from (is_entry (rule.packed_as e)) (are_entries (map rule.packed_as (es ++ x ∷ []))) p.0 (fit_put es x p.1 k)

-- ---- one entry more

none_taken : (o : Option (List ℕ)) (es : rule.Named) → o ≡ None → rule.is_taken_name o es ≡ false
none_taken None es e = refl
none_taken (Some n) es e = absurd cc

abbrev has : List ℕ → List (Vec ℕ) → Bool
has t ks = list_any (λ k. bytes_eq t k.items) ks

module _ (es : List Entry) (x : Entry) (ks : List (Vec ℕ)) (before : AreNamed es ks)
    (fits : is_entry (rule.packed_as (entry x)) ≡ true) where
  put : map entry (es ++ x ∷ []) ≡ map entry es ++ entry x ∷ []
  put = map_push entry es x

  fit_now : are_entries (map rule.packed_as (map entry (es ++ x ∷ []))) ≡ true
  fit_now = subst (λ (all : rule.Named). are_entries (map rule.packed_as all) ≡ true) (sym put) (fit_put (map entry es) (entry x) before.fit fits)

  distinct_now : rule.is_taken_name (name_of (entry x)) (map entry es) ≡ false → are_distinct (map entry (es ++ x ∷ [])) ≡ true
  distinct_now free = subst (λ (all : rule.Named). are_distinct all ≡ true) (sym put) (distinct_put (map entry es) (entry x) before.distinct free)

  declared_now : (t : List ℕ) → rule.is_declared t (map entry (es ++ x ∷ [])) ≡ (rule.is_declared t (map entry es) || is_name (name_of (entry x)) t)
  declared_now t =
      ap (rule.is_declared t) put ∙ declared_put t (map entry es) (entry x)
      ∙ ap (λ (b : Bool). rule.is_declared t (map entry es) || b) (named_is t (entry x))

  pub plain_put : name_of (entry x) ≡ None → AreNamed (es ++ x ∷ []) ks
  plain_put e = record {
    same = λ t. before.same t ∙ sym (or_false (rule.is_declared t (map entry es)))
        ∙ sym (ap (λ (o : Option (List ℕ)). rule.is_declared t (map entry es) || is_name o t) e) ∙ sym (declared_now t);
    distinct = distinct_now (none_taken (name_of (entry x)) (map entry es) e);
    fit = fit_now;
  }
    where
      or_false : (b : Bool) → (b || false) ≡ b
      or_false true = refl
      or_false false = refl

  pub named_put : (k : Vec ℕ) (now : List (Vec ℕ)) → rule.is_declared k.items (map entry es) ≡ false
      → name_of (entry x) ≡ Some k.items → now ≡ insert_key (λ a b. bytes_eq a.items b.items) ks k → AreNamed (es ++ x ∷ []) now
  named_put k now free e put_key = record {
    same = λ t.
        ap (has t) keys ∙ list_any-append (λ (j : Vec ℕ). bytes_eq t j.items) ks (k ∷ []) ∙ one_more (has t ks) (bytes_eq t k.items)
        ∙ ap (λ (b : Bool). b || bytes_eq t k.items) (before.same t)
        ∙ sym (ap (λ (o : Option (List ℕ)). rule.is_declared t (map entry es) || is_name o t) e) ∙ sym (declared_now t);
    distinct = distinct_now (ap (λ (o : Option (List ℕ)). rule.is_taken_name o (map entry es)) e ∙ free);
    fit = fit_now;
  }
    where
      keys : now ≡ ks ++ k ∷ []
      keys = put_key ∙ ap (λ (b : Bool). cond b ks (ks ++ k ∷ [])) (before.same k.items ∙ free)

-- the last entry is taken off again
pub taken_off : (es fs gs : List Entry) (x : Entry) (n : ℕ) → n ≡ length es → fs ≡ es ++ x ∷ [] → gs ≡ take n fs → gs ≡ es
taken_off es fs gs x n e f g =
    g ∙ ap (λ (k : ℕ). take k fs) e ∙ ap (take (length es)) f ∙ take-append_seam es (x ∷ [])
