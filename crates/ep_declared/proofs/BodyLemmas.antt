-- Words before bodies, and the members of bodies, one after another.
use Rattle.std.proofs.Common.{◌≡◌, ℕ, suc, ◌+◌, ◌<◌, ◌≤◌, nat_eq, Bool, true, false, ◌||◌, List, [], ◌∷◌, ◌++◌, length}
use Rattle.ep_core.proofs.Tables.{more_aggregates}
use Rattle.ep_layout.proofs.Basics.{grows-trans, is_union-stays}
use Rattle.std.proofs.Common.{map, drop, drop-cons, get_or, true≢false, Option, Result, Ok, Err}
use Rattle.std.proofs.Common.{refl, sym, ap, ◌∙◌, subst, arith}
use Rattle.std.specs.Prelude.{OnOk}
use Rattle.std.specs.Global.{Vec}
use Rattle.std.specs.Option.{option_map}
use Rattle.std.proofs.lemmas.Bool.Decides.{nat_tests}
use Rattle.std.proofs.lemmas.List.{drop_all}
use Rattle.ep_int.specs.Memory.{contains}
use Rattle.ep_ast.specs.declared.declarations.SpecTree.{SpecTree, Plain, Body}
use Rattle.ep_ast.specs.declared.declarations.MemberFieldTree.{MemberFieldTree}
use Rattle.ep_ast.specs.declared.declarations.MemberTree.{MemberTree}
use Rattle.ep_ast.specs.declared.expressions.TypeWordTree.{TypeWordTree}
use Rattle.ep_ast.specs.declared.refusals.Refusal.{Refusal}
use Rattle.ep_ast.specs.declared.refusals.Halt.{Halt}
use Rattle.ep_ast.specs.declared.refusals.Halt.TheVariants as halts
use Rattle.ep_ast.specs.Expression.{TypeWord, type_word}
use Rattle.ep_ast.specs.Declaration.{Spec, Members, aggregate, body, member_field, member_of, more_members, more_specs}
use Rattle.ep_ast.specs.Declaration.{spec_of, text_of, to_members, to_specs}
use Rattle.ep_ast.specs.declared.words.Word.{Word}
use Rattle.ep_ast.specs.Mark.{union_word, word_number}
use Rattle.ep_ast.proofs.Rows.{members-vec}
use Rattle.ep_layout.specs.Table.{Grows, is_completed, is_union}
use Rattle.ep_layout.proofs.Recursion.{kept_by_itself}
use Rattle.ep_typing.specs.declared.types.CType.{CType}
use Rattle.ep_typing.specs.Env.{Env}
use Rattle.ep_typing.specs.Results.{◌>>=◌, at}
use Rattle.ep_elaboration.specs.Aggregates.{Named, all_members, body_declared, closed, entries_declared, opened}
use Rattle.ep_elaboration.specs.Aggregates.{specs_declared, words_declared}
use Rattle.ep_operands.specs.Refinement.{Stops}
use Rattle.ep_scopes.specs.Known.{IsKnownEnv}
use Rattle.ep_declared.specs.Open.{Follows, IsAfter, IsOpened, OthersStayOpen, StaysOpen}

-- ---- the words before a body

body_tree : (l : ℕ) (n : Word) (t : Option (Vec ℕ)) (v : Vec MemberTree)
    → spec_of (Body l n t v)
    ≡ body (aggregate l (word_number n) (option_map text_of t) (to_members (map member_of v.items)))
body_tree l n t v = ap (λ (ms : Members). body (aggregate l (word_number n) (option_map text_of t) ms)) (members-vec v)

front : (i : ℕ) (ss : List SpecTree) (s : SpecTree) → i < length ss → s ≡ get_or ss i s → drop i ss
    ≡ s ∷ drop (i + 1) ss
front i ss s lt e =
    let more : suc i ≡ i + 1 = omega arith in
    drop-cons ss i s lt ∙ ap (λ (y : SpecTree). y ∷ drop (suc i) ss) (sym e) ∙ ap (λ (n : ℕ). s ∷ drop n ss) more

module _ (i : ℕ) (ss : List SpecTree) (s : SpecTree) (lt : i < length ss) (is : s ≡ get_or ss i s) (G : Env)
    (us : List ℕ) (ws : List TypeWord) (all : Result (CType × Env) Refusal)
    (h : specs_declared G us ws (to_specs (map spec_of (drop i ss))) ≡ all) where
  first_spec : specs_declared G us ws (more_specs (spec_of s) (to_specs (map spec_of (drop (i + 1) ss)))) ≡ all
  first_spec = sym (ap (λ (rs : List SpecTree). specs_declared G us ws (to_specs (map spec_of rs))) (front i ss s lt
      is)) ∙ h

  pub word_more : (w v : TypeWordTree) → s ≡ Plain w → type_word v ≡ type_word w
      → specs_declared G us (ws ++ type_word v ∷ []) (to_specs (map spec_of (drop (i + 1) ss))) ≡ all
  unfolding specs_declared
  word_more w v e f =
      ap (λ (x : TypeWord). specs_declared G us (ws ++ x ∷ []) (to_specs (map spec_of (drop (i + 1) ss)))) f
      ∙ sym (ap (λ (r : SpecTree). specs_declared G us ws (more_specs (spec_of r) (to_specs (map spec_of (drop (i + 1)
      ss))))) e) ∙ first_spec

  pub body_is : (l : ℕ) (n : Word) (t : Option (Vec ℕ)) (v : Vec MemberTree) (ms : List MemberTree) → s ≡ Body l n t v
      → ms ≡ v.items
      → body_declared G us (aggregate l (word_number n) (option_map text_of t) (to_members (map member_of ms))) ≡ all
  unfolding specs_declared
  body_is l n t v ms e f =
      ap (λ (xs : List MemberTree). body_declared G us
      (aggregate l (word_number n) (option_map text_of t) (to_members (map
      member_of xs)))) f
      ∙ sym (ap (λ (b : Spec). specs_declared G us ws (more_specs b (to_specs (map spec_of (drop (i + 1) ss))))) (ap
      spec_of e ∙ body_tree l n t v))
      ∙ first_spec

pub only_words : (i : ℕ) (ss : List SpecTree) (G : Env) (us : List ℕ) (ws : List TypeWord) (all : Result (CType × Env)
    Refusal) → length ss ≤ i
    → specs_declared G us ws (to_specs (map spec_of (drop i ss))) ≡ all → words_declared G ws ≡ all
unfolding specs_declared
only_words i ss G us ws all le h =
    sym (ap (λ (rs : List SpecTree). specs_declared G us ws (to_specs (map spec_of rs))) (drop_all i ss le)) ∙ h

-- ---- members

member_front : (i : ℕ) (ms : List MemberTree) (m : MemberTree) → i < length ms → m ≡ get_or ms i m → drop i ms
    ≡ m ∷ drop (i + 1) ms
member_front i ms m lt e =
    let more : suc i ≡ i + 1 = omega arith in
    drop-cons ms i m lt ∙ ap (λ (y : MemberTree). y ∷ drop (suc i) ms) (sym e) ∙ ap (λ (n : ℕ). m ∷ drop n ms) more

abbrev pub named_in : Named → Env → Result (Named × Env) Refusal
named_in ms G = Ok (ms, G)

module _ (i : ℕ) (ts : List MemberTree) (t : MemberTree) (lt : i < length ts) (is : t ≡ get_or ts i t) (G : Env)
    (us : List ℕ) (ms : Named) (all : Result (Named × Env) Refusal)
    (h : all_members G us ms (to_members (map member_of (drop i ts))) ≡ all) (ss : List SpecTree)
    (specs : ss ≡ t.specs.items) where
  first_members : all_members G us ms (more_members (member_of t) (to_members (map member_of (drop (i + 1) ts)))) ≡ all
  first_members = sym (ap (λ (rs : List MemberTree). all_members G us ms (to_members (map member_of rs)))
      (member_front i ts t lt is)) ∙ h

  pub specs_stop : (e : Halt) → Stops (specs_declared G us [] (to_specs (map spec_of ss))) e → Stops all e
  unfolding all_members
  specs_stop halts.Memory k = tt
  specs_stop (halts.Refused r) k =
      let stops : specs_declared G us [] (to_specs (map spec_of t.specs.items)) ≡ Err r =
      sym (ap (λ (xs : List SpecTree). specs_declared G us [] (to_specs (map spec_of xs))) specs) ∙ k in
      sym first_members ∙ rw stops refl

  module _ (c : CType) (H : Env) (given : specs_declared G us [] (to_specs (map spec_of ss)) ≡ Ok (c, H))
      (ds : List MemberFieldTree) (fields : ds ≡ t.fields.items) where
    k : specs_declared G us [] (to_specs (map spec_of t.specs.items)) ≡ Ok (c, H)
    k = sym (ap (λ (xs : List SpecTree). specs_declared G us [] (to_specs (map spec_of xs))) specs) ∙ given

    after_specs : (entries_declared H us ms c (map member_field t.fields.items)
        >>= (λ p. all_members p.1 us p.0 (to_members (map member_of (drop (i + 1) ts))))) ≡ all
    unfolding all_members
    after_specs =
        sym (ap (λ (r : Result (CType × Env) Refusal). r >>= (λ q. entries_declared q.1 us ms q.0 (map member_field
        t.fields.items)
        >>= (λ p. all_members p.1 us p.0 (to_members (map member_of (drop (i + 1) ts)))))) k)
        ∙ first_members

    declared_is : entries_declared H us ms c (map member_field ds)
        ≡ entries_declared H us ms c (map member_field t.fields.items)
    declared_is = ap (λ (xs : List MemberFieldTree). entries_declared H us ms c (map member_field xs)) fields

    pub members_stop_all : (e : Halt) → Stops (entries_declared H us ms c (map member_field ds)) e → Stops all e
    members_stop_all halts.Memory j = tt
    members_stop_all (halts.Refused r) j =
        let stops : entries_declared H us ms c (map member_field t.fields.items) ≡ Err r = sym declared_is ∙ j in
        sym after_specs ∙ rw stops refl

    pub members_went : (ns : Named) (I : Env) → entries_declared H us ms c (map member_field ds) ≡ Ok (ns, I)
        → all_members I us ns (to_members (map member_of (drop (i + 1) ts))) ≡ all
    members_went ns I j =
        sym (ap (λ (r : Result (Named × Env) Refusal). r >>= (λ p. all_members p.1 us p.0 (to_members (map member_of
        (drop (i + 1) ts)))))
        (sym declared_is ∙ j))
        ∙ after_specs

pub no_more_members : (i : ℕ) (ts : List MemberTree) (G : Env) (us : List ℕ) (ms : Named) (all : Result (Named × Env)
    Refusal) → length ts ≤ i
    → all_members G us ms (to_members (map member_of (drop i ts))) ≡ all → all ≡ named_in ms G
unfolding all_members
no_more_members i ts G us ms all le h =
    sym h ∙ ap (λ (rs : List MemberTree). all_members G us ms (to_members (map member_of rs))) (drop_all i ts le)

-- ---- one body

module _ (l n : ℕ) (t : Option (List ℕ)) (ts : List MemberTree) (us vs : List ℕ) (G H : Env) (a : ℕ)
    (gives : at l (opened G us (nat_eq n union_word) t) ≡ Ok (a, H)) (inside : vs ≡ a ∷ us) where
  then_members : body_declared G us (aggregate l n t (to_members (map member_of ts)))
      ≡ (all_members H vs [] (to_members (map member_of ts)) >>= (λ r. at l (closed r.1 a (nat_eq n union_word) r.0)))
  unfolding body_declared
  then_members = rw (inside, gives) refl

  pub members_stopped : (e : Halt) → Stops (all_members H vs [] (to_members (map member_of ts))) e
      → Stops (body_declared G us (aggregate l n t (to_members (map member_of ts)))) e
  members_stopped halts.Memory h = tt
  members_stopped (halts.Refused r) h = then_members ∙ rw h refl

  module _ (ms : Named) (I : Env) (k : all_members H vs [] (to_members (map member_of ts)) ≡ Ok (ms, I))
      (u : is_union I.types a ≡ nat_eq n union_word) where
    pub then_closed : body_declared G us (aggregate l n t (to_members (map member_of ts)))
        ≡ at l (closed I a (is_union I.types a) ms)
    then_closed =
        then_members
        ∙ ap (λ (r : Result (Named × Env) Refusal). r >>= (λ p. at l (closed p.1 a (nat_eq n union_word) p.0))) k
        ∙ sym (ap (λ (b : Bool). at l (closed I a b ms)) u)

    pub closed_stopped : (e : Halt) → Stops (at l (closed I a (is_union I.types a) ms)) e
        → Stops (body_declared G us (aggregate l n t (to_members (map member_of ts)))) e
    closed_stopped halts.Memory h = tt
    closed_stopped (halts.Refused r) h = then_closed ∙ h

-- ---- what is left

pub after_itself : (us : List ℕ) (G : Env) → IsKnownEnv G → IsAfter us G G
after_itself us G k = record { known = k; grown = kept_by_itself G.types; stay = λ a lt c o. o }

pub after_ok : {T E : Type 0} (r : Result T E) (us : List ℕ) (G H : Env) → OnOk r (IsKnownEnv H)
    → OnOk r (Grows G.types H.types)
    → OnOk r (StaysOpen G.types H.types) → OnOk r (IsAfter us G H)
after_ok (Ok x) us G H k g s = record { known = k; grown = g; stay = λ a lt c o. s a o }
after_ok (Err e) us G H k g s = tt

pub follows_on : (us : List ℕ) (G H I : Env) → IsAfter us G H → Follows H I → IsAfter us G I
follows_on us G H I a f = record {
  known = f.known;
  grown = grows-trans G.types H.types I.types a.grown f.grown;
  stay = λ k lt c o. f.stay k (a.stay k lt c o);
}

pub after_on : (us : List ℕ) (G H I : Env) → IsAfter us G H → IsAfter us H I → IsAfter us G I
after_on us G H I a b = record {
  known = b.known;
  grown = grows-trans G.types H.types I.types a.grown b.grown;
  stay = λ k lt c o. b.stay k (omega (arith, lt, more_aggregates G.types H.types a.grown)) c (a.stay k lt c o);
}

inside_too : (a b : ℕ) (us : List ℕ) → contains b us ≡ true → contains b (a ∷ us) ≡ true
inside_too a b us h = of (nat_eq b a)
  where
    of : (p : Bool) → (p || contains b us) ≡ true
    of true = refl
    of false = h

itself_inside : (a : ℕ) (us : List ℕ) → contains a (a ∷ us) ≡ true
itself_inside a us = let e : nat_eq a a ≡ true = grind (arith, nat_tests) in ap (λ (p : Bool). p || contains a us) e

-- between the brackets of a body
module _ (us : List ℕ) (u : Bool) (a : ℕ) (G H I : Env) (f : Follows G H) (o : IsOpened us u a G.types H.types)
    (vs : List ℕ) (inside : vs ≡ a ∷ us) (before : IsAfter vs H I) where
  b : IsAfter (a ∷ us) H I
  b = subst (λ (ws : List ℕ). IsAfter ws H I) inside before

  pub still_there : a < length I.types.aggregates
  still_there = omega (arith, o.inside, more_aggregates H.types I.types b.grown)

  pub still_open : is_completed I.types a ≡ false
  still_open = b.stay a o.inside (itself_inside a us) o.empty

  pub same_word : is_union I.types a ≡ u
  same_word = is_union-stays H.types I.types b.grown a o.inside ∙ o.word

  pub body_after : (J : Env) → OthersStayOpen a I.types J.types → Grows I.types J.types → IsKnownEnv J → IsAfter us G J
  body_after J q g known = record {
    known = known;
    grown = grows-trans G.types I.types J.types (grows-trans G.types H.types I.types f.grown b.grown) g;
    stay = λ k lt c p. q k (λ e. bad k lt c e) (b.stay k (omega (arith, lt, more_aggregates G.types H.types f.grown))
        (inside_too a k us c) (f.stay k p));
  }
    where
      bad : (k : ℕ) → k < length G.types.aggregates → contains k us ≡ true → k ≡ a → ⊥
      bad k lt c e =
          let not_in : contains k us ≡ false = subst (λ (j : ℕ). contains j us
          ≡ false) (sym e) (o.other (subst (λ (j : ℕ). j < length G.types.aggregates) e lt)) in
          true≢false (sym c ∙ not_in)
