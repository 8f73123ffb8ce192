-- Reading the members of a `struct` or `union`, one after the other, up to the closing brace.
use Rattle.std.proofs.Common.{◌≡◌, ℕ, Bool, List, [], ◌∷◌, ◌++◌, Some, refl, sym, ap, ◌∙◌, append_assoc}
use Rattle.ep_ast.specs.Token.{Tok, mark}
use Rattle.ep_ast.specs.Declaration.{Spec, Member, member, to_specs, MemberField}
use Rattle.ep_ast.specs.Mark.{right_brace}
use Rattle.ep_ast.specs.DeclarationGrammar.{in_aggregate, specs_line, Specified, Members, last_member, next_member}
use Rattle.ep_ast.specs.DeclarationGrammar.{OneMember, members, Fields}
use Rattle.ep_ast.specs.Reading.{Takes, TakesNone, Lacks, AtMark}
use Rattle.ep_reading.proofs.FirstLemmas.{tail_is, lacks_is}
use Rattle.ep_declarations.proofs.SpecLemmas.{not_specified}

module _ (N : List ℕ → Bool) where
  -- ---- one member

  member_is : (ss us : List Spec) (fs vs : List MemberField) → us ≡ ss → vs ≡ fs
      → member (specs_line us) (to_specs us) vs ≡ member (specs_line ss) (to_specs ss) fs
  member_is ss us fs vs e f = rw (e, f) refl

  one_only : {xs ys zs ws : List Tok} {ss : List Spec} {fs : List MemberField} {m : Member}
      → Takes (Specified N in_aggregate) xs ss ys → Takes (Fields N) ys fs zs → OneMember N xs ws m
      → (m ≡ member (specs_line ss) (to_specs ss) fs) × (ws ≡ zs)
  one_only {ss = ss} {fs = fs} t s (members {ys = ys'} {zs = ws} {ss = us} {fs = vs} d e) =
      let p = t.only us ys' d in
      let q = s.only vs ws (rw p.1 at e) in
      (member_is ss us fs vs p.0 q.0, q.1)

  pub one_taken : (xs ys zs : List Tok) (ss : List Spec) (fs : List MemberField)
      → Takes (Specified N in_aggregate) xs ss ys → Takes (Fields N) ys fs zs
      → Takes (OneMember N) xs (member (specs_line ss) (to_specs ss) fs) zs
  one_taken xs ys zs ss fs t s = record { holds = members t.holds s.holds; only = λ m ws d. one_only t s d }

  words_never : {xs ws : List Tok} {m : Member} → TakesNone (Specified N in_aggregate) xs → OneMember N xs ws m → ⊥
  words_never t (members {ys = ys} {ss = ss} d e) = t.never ss ys d

  pub words_none : (xs : List Tok) → TakesNone (Specified N in_aggregate) xs → TakesNone (OneMember N) xs
  words_none xs t = record { never = λ m ws d. words_never t d }

  fields_never : {xs ys ws : List Tok} {ss : List Spec} {m : Member} → Takes (Specified N in_aggregate) xs ss ys
      → TakesNone (Fields N) ys → OneMember N xs ws m → ⊥
  fields_never t n (members {ys = ys'} {zs = ws} {ss = us} {fs = vs} d e) = let p = t.only us ys' d in
      n.never vs ws (rw p.1 at e)

  pub fields_none : (xs ys : List Tok) (ss : List Spec) → Takes (Specified N in_aggregate) xs ss ys
      → TakesNone (Fields N) ys → TakesNone (OneMember N) xs
  fields_none xs ys ss t s = record { never = λ m ws d. fields_never t s d }

  -- ---- members

  -- these are read, and what comes are members again
  pub record MembersSo (xs : List Tok) (front : List Member) (ys : List Tok) : Type 0 where
    pub forth : (zs : List Tok) (ms : List Member) → Members N ys zs ms → Members N xs zs (front ++ ms)
    pub back : (zs : List Tok) (ms : List Member) → Members N xs zs ms
        → (more : List Member) × (ms ≡ front ++ more) × Members N ys zs more

  pub members_begin : (xs : List Tok) → MembersSo xs [] xs
  members_begin xs = record { forth = λ zs ms d. d; back = λ zs ms d. (ms, refl, d) }

  one_more : (front : List Member) {ys us zs : List Tok} {m : Member} {ms rest : List Member}
      → Takes (OneMember N) ys m us → Lacks right_brace us → ms ≡ front ++ rest → Members N ys zs rest
      → (more : List Member) × (ms ≡ (front ++ m ∷ []) ++ more) × Members N us zs more
  one_more front {us = us} t n e (last_member {l = l} {c = c} {ys = ys'} {m = m'} k d) =
      let q = t.only m' (mark l c ∷ ys') d in absurd (lacks_is l c right_brace us ys' n (sym q.1) k)
  one_more front {m = m} t n e (next_member {ys = ys'} {m = m'} {ms = ms'} d r) =
      let q = t.only m' ys' d in
      (ms', e ∙ ap (λ (x : Member). front ++ x ∷ ms') q.0 ∙ sym (append_assoc front (m ∷ []) ms'), rw (← q.1) r)

  pub members_step : (xs : List Tok) (front : List Member) (ys us : List Tok) (m : Member) → MembersSo xs front ys
      → Takes (OneMember N) ys m us → Lacks right_brace us → MembersSo xs (front ++ m ∷ []) us
  members_step xs front ys us m o t k = record {
    forth = λ zs ms d. rw append_assoc (o.forth zs (m ∷ ms) (next_member t.holds d));
    back = λ zs ms d. let q = o.back zs ms d in one_more front t k q.1 q.2;
  }

  no_member : {l c : ℕ} {xs zs : List Tok} {m : Member} → OneMember N (mark l c ∷ xs) zs m → ⊥
  no_member (members d e) = not_specified N refl d

  no_members : {l c : ℕ} {xs zs : List Tok} {ms : List Member} → Members N (mark l c ∷ xs) zs ms → ⊥
  no_members (last_member k d) = no_member d
  no_members (next_member d r) = no_member d

  at_last : (front : List Member) {l c : ℕ} {ys us zs : List Tok} {m : Member} {ms rest : List Member}
      → Takes (OneMember N) ys m (mark l c ∷ us) → ms ≡ front ++ rest → Members N ys zs rest
      → (ms ≡ front ++ m ∷ []) × (zs ≡ us)
  at_last front t e (last_member {l = l'} {c = c'} {ys = ys'} {m = m'} k d) = let q = t.only m' (mark l' c' ∷ ys') d in
      (e ∙ ap (λ (x : Member). front ++ x ∷ []) q.0, tail_is q.1)
  at_last front t e (next_member {ys = ys'} {m = m'} d r) = let q = t.only m' ys' d in absurd (no_members (rw q.1 at r))

  pub members_taken : (xs : List Tok) (front : List Member) (ys us zs : List Tok) (m : Member) (l : ℕ)
      → MembersSo xs front ys → Takes (OneMember N) ys m us → AtMark right_brace us (Some (l, zs))
      → Takes (Members N) xs (front ++ m ∷ []) zs
  members_taken xs front ys us zs m l o t k =
      let t' : Takes (OneMember N) ys m (mark l k.0 ∷ zs) = rw k.2 at t in
      record {
        holds = o.forth zs (m ∷ []) (last_member k.1 t'.holds);
        only = λ ms ws d. let q = o.back ws ms d in
            at_last front t' q.1 q.2;
      }

  stuck : {ys zs : List Tok} {ms : List Member} → TakesNone (OneMember N) ys → Members N ys zs ms → ⊥
  stuck t (last_member {l = l} {c = c} {ys = ys} {m = m} k d) = t.never m (mark l c ∷ ys) d
  stuck t (next_member {ys = ys} {m = m} d r) = t.never m ys d

  pub members_stuck : (xs : List Tok) (front : List Member) (ys : List Tok) → MembersSo xs front ys
      → TakesNone (OneMember N) ys → TakesNone (Members N) xs
  members_stuck xs front ys o t = record { never = λ ms zs d. let q = o.back zs ms d in stuck t q.2 }
