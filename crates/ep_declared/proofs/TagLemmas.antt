-- Bodies are opened and closed.
use Rattle.std.proofs.Common.{◌≡◌, ℕ, zero, suc, ◌<◌, Bool, true, false, ◌||◌, not, List, []}
use Rattle.ep_layout.proofs.Basics.{grows-trans}
use Rattle.std.proofs.lemmas.Bool.{or_parts}
use Rattle.std.proofs.Common.{◌∷◌, ◌++◌, length, get_or, slice_get, slice_set, is_some, option_and_then, option_map}
use Rattle.std.proofs.Common.{unwrap_or, Option, Some, None, refl, sym, ap, ◌∙◌, subst}
use Rattle.std.proofs.Common.{arith}
use Rattle.std.specs.Prelude.{◌≢◌}
use Rattle.std.specs.Global.{Vec}
use Rattle.std.specs.List.{list_all}
use Rattle.std.proofs.lemmas.List.{length_push}
use Rattle.std.proofs.lemmas.List.Folds.{list_all-map}
use Rattle.std.proofs.lemmas.Option.{slice_get-get_or}
use Rattle.ep_int.specs.Memory.{contains}
use Rattle.ep_layout.specs.SameTypes.{is_same_sign}
use Rattle.ep_layout.specs.Table.{AggregateRow, Grows, Table, completed_with, declared, is_completed, is_type, is_union}
use Rattle.ep_layout.specs.Table.{laid_out}
use Rattle.ep_layout.specs.Views.{named_view}
use Rattle.ep_layout.proofs.Laid.{completed_is, grows_with_members, with_members}
use Rattle.ep_typing.specs.declared.types.Base.TheVariants as bases
use Rattle.ep_typing.specs.declared.types.CType.{CType}
use Rattle.ep_typing.specs.Env.{Env, Scope, entry, with_tag}
use Rattle.ep_typing.specs.Types.{whole, with_c_type}
use Rattle.ep_elaboration.specs.Aggregates.{has_body, tags_here}
use Rattle.ep_scopes.specs.Known.{AreKnownScopes, IsKnown, IsKnownEnv}
use Rattle.ep_scopes.specs.View as view
use Rattle.ep_scopes.proofs.KnownLemmas.{tag_entry_known, tag_stays}
use Rattle.ep_declared.specs.Open.{Follows, IsOpened, OthersStayOpen}
use Rattle.ep_declared.proofs.Growth.{IsMore, declared_more, follows_table, has_members, table_known}
use Rattle.ep_declared.proofs.Growth.{type_known, type_more}

pub here_is : (ss : List Scope) → (view.innermost ss).tags ≡ tags_here ss
here_is [] = refl
here_is (s ∷ ss) = refl

pub here_known : (G : Env) (t : List ℕ) (a : ℕ) → IsKnownEnv G → entry t (tags_here G.scopes) ≡ Some a
    → a < length G.types.aggregates
here_known G t a k h = of G.scopes k h
  where
    of : (ss : List Scope) → AreKnownScopes G.types ss → entry t (tags_here ss) ≡ Some a → a < length G.types.aggregates
    of [] k h = absurd cc
    of (s ∷ ss) k h = tag_entry_known G.types t s.tags a k.1.0 h

-- ---- a body is opened

last_open : (gs : List AggregateRow) (g : AggregateRow) → g.members ≡ None → has_members (gs ++ g ∷ []) (length gs)
    ≡ false
last_open [] g e = ap is_some e
last_open (x ∷ gs) g e = last_open gs g e

abbrev union_at : List AggregateRow → ℕ → Bool
union_at gs a = unwrap_or (option_map (λ (g : AggregateRow). g.is_union) (slice_get gs a)) false

last_union : (gs : List AggregateRow) (g : AggregateRow) → union_at (gs ++ g ∷ []) (length gs) ≡ g.is_union
last_union [] g = refl
last_union (x ∷ gs) g = last_union gs g

pub opened_new : (t : Table) (tag : List ℕ) (u : Bool) (us : List ℕ)
    → IsOpened us u (length t.aggregates) t (declared t tag u)
opened_new t tag u us =
    let g : AggregateRow = record { tag = tag; is_union = u; members = None } in
    record {
      inside = omega (arith, length_push t.aggregates g);
      empty = last_open t.aggregates g refl;
      word = last_union t.aggregates g;
      other = λ lt. absurd (omega arith);
    }

pub opened_by : (t v : Table) (tag : List ℕ) (u : Bool) (us : List ℕ) (n : ℕ) → n ≡ length t.aggregates → v
    ≡ declared t tag u → IsOpened us u n t v
opened_by t v tag u us n e f =
    subst (λ (w : Table). IsOpened us u n t w) (sym f)
    (subst (λ (m : ℕ). IsOpened us u m t (declared t tag u)) (sym e) (opened_new t tag u us))

pub declared_follows : (G : Env) (v : Table) (tag : List ℕ) (u : Bool) → v ≡ declared G.types tag u → IsKnownEnv G
    → Follows G (record G { types = v })
declared_follows G v tag u e k =
    let m : IsMore G.types v = subst (IsMore G.types) (sym e) (declared_more G.types tag u) in
    follows_table G v k m.grows m.stay

pub tag_follows : (G H : Env) (t : List ℕ) (u : Bool) → H ≡ with_tag G t u → IsKnownEnv G → Follows G H
tag_follows G H t u e k =
    let m : IsMore G.types (declared G.types t u) = declared_more G.types t u in
    subst (Follows G) (sym e) (record { known = tag_stays G t u k; grown = m.grows; stay = m.stay })

same_words : (a b : Bool) → not (is_same_sign a b) ≡ false → a ≡ b
same_words true true h = refl
same_words false false h = refl
same_words true false h = absurd cc
same_words false true h = absurd cc

pub opened_there : (G : Env) (t : List ℕ) (u : Bool) (us : List ℕ) (a : ℕ) → IsKnownEnv G
    → entry t (tags_here G.scopes) ≡ Some a
    → has_body G us u a ≡ false → IsOpened us u a G.types G.types
opened_there G t u us a k e h =
    let p = or_parts (contains a us || is_completed G.types a) (not (is_same_sign (is_union G.types a) u)) h in
    let q = or_parts (contains a us) (is_completed G.types a) p.0 in
    record {
      inside = here_known G t a k e;
      empty = q.1;
      word = same_words (is_union G.types a) u p.1;
      other = λ lt.
          q.0;
    }

-- ---- a body is closed

no_members : (o : Option AggregateRow) (g : AggregateRow) → o ≡ Some g
    → is_some (option_and_then (λ (r : AggregateRow). r.members) o) ≡ false
    → g.members ≡ None
no_members o g e h = none (g.members) (sym (ap (λ (p : Option AggregateRow). is_some (option_and_then (λ (r :
    AggregateRow). r.members) p)) e) ∙ h)
  where
    none : {X : Type 0} (o : Option X) → is_some o ≡ false → o ≡ None
    none None h = refl
    none (Some x) h = absurd cc

pub completed_grows : (t : Table) (a : ℕ) (ms : List (List ℕ × ℕ)) → a < length t.aggregates → is_completed t a ≡ false
    → Grows t (completed_with t a ms)
completed_grows t a ms lt h =
    let d : AggregateRow = record { tag = []; is_union = false; members = None } in
    let g : AggregateRow = get_or t.aggregates a d in
    let e : slice_get t.aggregates a ≡ Some g = slice_get-get_or t.aggregates a d lt in
    subst (Grows t) (sym (completed_is t a g ms e))
    (grows_with_members t a g (laid_out t g.is_union ms) e (no_members (slice_get t.aggregates a) g e h))

open_set : (gs : List AggregateRow) (a b : ℕ) (g : AggregateRow) → b ≢ a → has_members gs b ≡ false
    → has_members (slice_set gs a g) b ≡ false
open_set [] a b g f h = h
open_set (x ∷ gs) zero zero g f h = absurd (f refl)
open_set (x ∷ gs) zero (suc b) g f h = h
open_set (x ∷ gs) (suc a) zero g f h = h
open_set (x ∷ gs) (suc a) (suc b) g f h = open_set gs a b g (λ e. f (ap suc e)) h

pub others_open : (t : Table) (a : ℕ) (ms : List (List ℕ × ℕ)) → OthersStayOpen a t (completed_with t a ms)
others_open t a ms b f h = of (slice_get t.aggregates a) (completed_with t a ms) refl refl
  where
    of : (o : Option AggregateRow) (u : Table) → slice_get t.aggregates a ≡ o → completed_with t a ms ≡ u
        → is_completed u b ≡ false
    of None u e k = let same : t ≡ u = rw e at k in subst (λ (v : Table). is_completed v b ≡ false) same h
    of (Some g) u e k =
        let same : with_members t a g (laid_out t g.is_union ms) ≡ u = sym (completed_is t a g ms e) ∙ k in
        subst (λ (v : Table). is_completed v b ≡ false) same
        (open_set t.aggregates a b (record g { members = Some (laid_out t g.is_union ms) }) f h)

pub listed_types : (t : Table) (ms : List (Vec ℕ × ℕ)) (ns : List (List ℕ × ℕ)) → named_view ms ≡ ns
    → list_all (λ (m : List ℕ × ℕ). is_type t m.1) ns ≡ true → list_all (λ (m : Vec ℕ × ℕ). is_type t m.1) ms ≡ true
listed_types t ms ns e h =
    sym (list_all-map (λ (m : List ℕ × ℕ). is_type t m.1) (λ (m : Vec ℕ × ℕ). (m.0.items, m.1)) ms)
    ∙ ap (list_all (λ (m : List ℕ × ℕ). is_type t m.1)) e ∙ h

-- what a body leaves
pub record IsClosed (G : Env) (a : ℕ) (c : CType) (u v : Table) : Type 0 where
  pub first : IsKnown u c
  pub known : IsKnownEnv (record G { types = v })
  pub inside : IsKnown v c
  pub grown : Grows G.types v
  pub stay : OthersStayOpen a G.types v

pub completed_first : (G : Env) (a : ℕ) (ms : List (List ℕ × ℕ)) (c : CType) (u : Table) → a < length G.types.aggregates
    → is_completed G.types a ≡ false
    → u ≡ completed_with G.types a ms → c ≡ whole (bases.Aggregate a) → IsKnown u c
completed_first G a ms c u lt o e f =
    let g : Grows G.types u = subst (Grows G.types) (sym e) (completed_grows G.types a ms lt o) in
    subst (IsKnown u) (sym f) (type_known G.types u g (whole (bases.Aggregate a)) lt)

pub is_closed : (G : Env) (a : ℕ) (ms : List (List ℕ × ℕ)) (c : CType) (u v : Table) → IsKnownEnv G → a < length G.types.aggregates
    → is_completed G.types a ≡ false → u ≡ completed_with G.types a ms → c ≡ whole (bases.Aggregate a) → v
    ≡ with_c_type u c → IsClosed G a c u v
is_closed G a ms c u v k lt o e f q =
    let g : Grows G.types u = subst (Grows G.types) (sym e) (completed_grows G.types a ms lt o) in
    let m : IsMore u v = subst (IsMore u) (sym q) (type_more u c) in
    let all : Grows G.types v = grows-trans G.types u v g m.grows in
    let there : IsKnown u c = completed_first G a ms c u lt o e f in
    record {
      first = there;
      known = table_known G v all k;
      inside = type_known u v m.grows c there;
      grown = all;
      stay = λ b n h. m.stay b (subst (λ (t : Table). is_completed t b
          ≡ false) (sym e) (others_open G.types a ms b n h));
    }
