use Rattle.std.proofs.Common.{◌≡◌, ℕ, List, Result, ◌∷◌, ◌∙◌, ap, map, refl, sym, subst}
use Rattle.ep_core.proofs.Tables.{more_types}
use Rattle.std.specs.Prelude.{OnOk}
use Rattle.std.proofs.lemmas.List.{map_push}
use Rattle.std.proofs.lemmas.Result.{err_from_is_err_and}
use Rattle.std.specs.Option.{option_map}
use Rattle.ep_ast.specs.Mark.{word_number}
use Rattle.ep_ast.specs.declared.expressions.TypeWordTree.{TypeWordTree}
use Rattle.ep_ast.specs.declared.refusals.Refusal.{Refusal}
use Rattle.ep_ast.specs.Declaration.{member_of, spec_of, text_of, to_members, to_specs}
use Rattle.ep_ast.specs.Expression.{TypeWord, type_word}
use Rattle.ep_typing.specs.declared.types.CType.{CType}
use Rattle.ep_typing.specs.Env.{Env}
use Rattle.ep_elaboration.specs.Aggregates as rule
use Rattle.ep_scopes.specs.Comes.{Comes}
use Rattle.ep_scopes.specs.View.{env}
use Rattle.ep_scopes.proofs.Coming.{comes_itself, comes_on}
use Rattle.ep_declared.specs.Refinement.{RefinesIn}
use Rattle.ep_declared.specs.Open.{AreTypes, IsAfter}
use Rattle.ep_declared.proofs.Answering.{on_stop}
use Rattle.ep_declared.proofs.BodyComing.{same_before, stop_comes}
use Rattle.ep_declared.proofs.BodyLemmas.{after_itself, after_ok, after_on, body_after, body_is, closed_stopped}
use Rattle.ep_declared.proofs.BodyLemmas.{follows_on, members_stop_all, members_stopped, members_went, no_more_members}
use Rattle.ep_declared.proofs.BodyLemmas.{only_words, same_word, specs_stop, still_open, still_there, then_closed}
use Rattle.ep_declared.proofs.BodyLemmas.{word_more}
use Rattle.ep_declared.proofs.MemberLemmas.{types_stay}
use Rattle.ep_declared.proofs.bodies.+bodies.Goals as goal

-- ---- words

pub specs_inside-loop-spec-init : goal.specs_inside-loop-spec-init
specs_inside-loop-spec-init t c = record {
  known = c.requires;
  same = refl;
  means = ap (λ (ws : List TypeWord). rule.specs_declared (env c.args.env.now) c.args.unclosed.now ws (to_specs (map
      spec_of c.args.specs.now)))
      (ap (map type_word) c.new-before.ensures.items);
}

pub specs_inside-loop-spec-preserved : goal.specs_inside-loop-spec-preserved
specs_inside-loop-spec-preserved t c = record {
  known = c.loop-spec.invariant.known;
  same = c.loop-spec.invariant.same;
  means = rw (
    c.in_ok-push-in-Plain.ensures.items,
    map_push type_word c.loop-spec.before.items
        c.in_ok-word-in-Plain.word,
  )
      (word_more c.loop-spec.spec-index c.args.specs.now c.spec-item.result c.loop-spec-test.true c.spec-item.is (env
      c.loop-spec.env)
      c.args.unclosed.now (map type_word c.loop-spec.before.items) _ c.loop-spec.invariant.means c.in-Plain.word
      c.in_ok-word-in-Plain.word
      c.in-Plain.is c.in_ok-word-in-Plain.ensures);
}

pub specs_inside-returns-in-Body-clause-means : goal.specs_inside-returns-in-Body-clause-means
specs_inside-returns-in-Body-clause-means t c =
    subst (λ (s : Result (CType × Env) Refusal). RefinesIn (λ (d : CType). d) s (env c.body_inside.new.env)
    c.body_inside.result)
    (body_is c.loop-spec.spec-index c.args.specs.now c.spec-item.result c.loop-spec-test.true c.spec-item.is (env
    c.loop-spec.env)
    c.args.unclosed.now (map type_word c.loop-spec.before.items) _ c.loop-spec.invariant.means c.in-Body.line
    c.in-Body.word c.in-Body.tag
    c.in-Body.members c.deref.result.now c.in-Body.is c.deref.ensures.value)
    c.body_inside.ensures.means

pub specs_inside-returns-in-Body-clause-after : goal.specs_inside-returns-in-Body-clause-after
specs_inside-returns-in-Body-clause-after t c =
    subst (λ (G : Env). OnOk c.body_inside.result (IsAfter c.args.unclosed.now G (env c.body_inside.new.env)))
    c.loop-spec.invariant.same
    c.body_inside.ensures.after

pub specs_inside-returns-clause-means : goal.specs_inside-returns-clause-means
specs_inside-returns-clause-means t c =
    subst (λ (s : Result (CType × Env) Refusal). RefinesIn (λ (d : CType). d) s (env c.words_declared.new.env)
    c.words_declared.result)
    (ap (λ (ws : List TypeWordTree). rule.words_declared (env c.loop-spec.env) (map type_word ws))
    c.deref-2.ensures.value
    ∙ only_words c.loop-spec.spec-index c.args.specs.now (env c.loop-spec.env) c.args.unclosed.now (map type_word
    c.loop-spec.before.items) _
    c.loop-spec-test.false c.loop-spec.invariant.means)
    c.words_declared.ensures.means

pub specs_inside-returns-clause-after : goal.specs_inside-returns-clause-after
specs_inside-returns-clause-after t c =
    subst (λ (G : Env). OnOk c.words_declared.result (IsAfter c.args.unclosed.now G (env c.words_declared.new.env)))
    c.loop-spec.invariant.same
    (after_ok c.words_declared.result c.args.unclosed.now (env c.loop-spec.env) (env c.words_declared.new.env)
    c.words_declared.ensures.known
    c.words_declared.ensures.grown c.words_declared.ensures.stay)

pub specs_inside-returns-in-Body-clause-comes : goal.specs_inside-returns-in-Body-clause-comes
specs_inside-returns-in-Body-clause-comes t c =
    same_before c.body_inside.result (env c.args.env.now) (env c.loop-spec.env) (env c.body_inside.new.env)
    c.loop-spec.invariant.same c.body_inside.ensures.comes

pub specs_inside-returns-clause-comes : goal.specs_inside-returns-clause-comes
specs_inside-returns-clause-comes t c =
    same_before c.words_declared.result (env c.args.env.now) (env c.loop-spec.env) (env c.words_declared.new.env)
    c.loop-spec.invariant.same c.words_declared.ensures.comes

-- ---- members

pub all_members-loop-member-init : goal.all_members-loop-member-init
all_members-loop-member-init t c = record {
  means = ap (λ (ms : rule.Named). rule.all_members (env c.args.env.now) c.args.unclosed.now ms (to_members (map
      member_of c.args.members.now))) c.new-named.ensures;
  after = after_itself c.args.unclosed.now (env c.args.env.now) c.requires;
  members = subst (AreTypes c.args.env.now.types) (sym c.new-named.ensures) refl;
  comes = comes_itself (env c.args.env.now);
}

pub all_members-entries_declared-requires : goal.all_members-entries_declared-requires
all_members-entries_declared-requires t c = record {
  known = c.in_ok-c.ensures.after.known;
  inside = c.in_ok-c.ensures.inside;
  members = types_stay c.loop-member.env.types c.specs_inside.new.env.types
      (more_types c.loop-member.env.types c.specs_inside.new.env.types c.in_ok-c.ensures.after.grown) c.loop-member.named
      c.loop-member.invariant.members;
}

pub all_members-returns-in_err-c-clause-means : goal.all_members-returns-in_err-c-clause-means
all_members-returns-in_err-c-clause-means t c =
    let p = err_from_is_err_and c.from_residual.result c.from_residual.ensures.1 in
    rw (p.1, p.2) (specs_stop c.loop-member.member-index c.args.members.now c.member-item.result
    c.loop-member-test.true c.member-item.is
    (env c.loop-member.env) c.args.unclosed.now c.loop-member.named _ c.loop-member.invariant.means
    c.deref.result.now
    c.deref.ensures.value _ c.in_err-c.ensures.means)

pub all_members-returns-in_err-entries_declared-clause-means :
    goal.all_members-returns-in_err-entries_declared-clause-means
all_members-returns-in_err-entries_declared-clause-means t c =
    let p = err_from_is_err_and c.from_residual-in_err-entries_declared.result
    c.from_residual-in_err-entries_declared.ensures.1 in
    rw (p.1, p.2) (members_stop_all c.loop-member.member-index c.args.members.now c.member-item.result
    c.loop-member-test.true c.member-item.is
    (env c.loop-member.env) c.args.unclosed.now c.loop-member.named _ c.loop-member.invariant.means
    c.deref.result.now
    c.deref.ensures.value c.in_ok-c.c (env c.specs_inside.new.env) c.in_ok-c.ensures.means
    c.deref-in-loop-member.result.now
    c.deref-in-loop-member.ensures.value _ c.in_err-entries_declared.ensures.means)

pub all_members-loop-member-preserved : goal.all_members-loop-member-preserved
all_members-loop-member-preserved t c = record {
  means = members_went c.loop-member.member-index c.args.members.now c.member-item.result c.loop-member-test.true
      c.member-item.is
      (env c.loop-member.env) c.args.unclosed.now c.loop-member.named _ c.loop-member.invariant.means
      c.deref.result.now
      c.deref.ensures.value c.in_ok-c.c (env c.specs_inside.new.env) c.in_ok-c.ensures.means
      c.deref-in-loop-member.result.now
      c.deref-in-loop-member.ensures.value c.entries_declared.new.named (env c.entries_declared.new.env)
      c.in_ok-entries_declared.ensures.means;
  after = follows_on c.args.unclosed.now (env c.args.env.now) (env c.specs_inside.new.env) (env
      c.entries_declared.new.env)
      (after_on c.args.unclosed.now (env c.args.env.now) (env c.loop-member.env) (env c.specs_inside.new.env)
      c.loop-member.invariant.after
      c.in_ok-c.ensures.after)
      c.in_ok-entries_declared.ensures.after;
  members = c.in_ok-entries_declared.ensures.members;
  comes = comes_on (env c.args.env.now) (env c.specs_inside.new.env) (env c.entries_declared.new.env)
      (comes_on (env c.args.env.now) (env c.loop-member.env) (env c.specs_inside.new.env)
      c.loop-member.invariant.comes c.in_ok-c.ensures.comes)
      c.in_ok-entries_declared.ensures.comes;
}

pub all_members-returns-clause-means : goal.all_members-returns-clause-means
all_members-returns-clause-means t c =
    no_more_members c.loop-member.member-index c.args.members.now (env c.loop-member.env) c.args.unclosed.now
    c.loop-member.named _
    c.loop-member-test.false c.loop-member.invariant.means

pub all_members-returns-in_err-c-clause-comes : goal.all_members-returns-in_err-c-clause-comes
all_members-returns-in_err-c-clause-comes t c =
    let p = err_from_is_err_and c.from_residual.result c.from_residual.ensures.1 in
    rw (p.1, p.2) (stop_comes CType rule.Named _ (env c.args.env.now) (env c.loop-member.env)
    (env c.specs_inside.new.env) c.loop-member.invariant.comes c.in_err-c.ensures.comes)

pub all_members-returns-in_err-entries_declared-clause-comes :
    goal.all_members-returns-in_err-entries_declared-clause-comes
all_members-returns-in_err-entries_declared-clause-comes t c =
    let p = err_from_is_err_and c.from_residual-in_err-entries_declared.result
    c.from_residual-in_err-entries_declared.ensures.1 in
    rw (p.1, p.2) (stop_comes (Unit {0}) rule.Named _ (env c.args.env.now) (env c.specs_inside.new.env)
    (env c.entries_declared.new.env)
    (comes_on (env c.args.env.now) (env c.loop-member.env) (env c.specs_inside.new.env)
    c.loop-member.invariant.comes c.in_ok-c.ensures.comes) c.in_err-entries_declared.ensures.comes)

-- ---- bodies

pub body_inside-closed-requires : goal.body_inside-closed-requires
body_inside-closed-requires t c =
    let vs : c.deref.result.now ≡ c.in_ok-number.number ∷ c.args.unclosed.now = c.deref.ensures.value
    ∙ c.in_ok-inner.ensures in
    record {
      known = c.in_ok-named.ensures.after.known;
      exists = still_there c.args.unclosed.now _ c.in_ok-number.number (env c.args.env.now) (env c.opened.new.env)
          (env c.all_members.new.env)
          c.in_ok-number.ensures.after c.in_ok-number.ensures.opened c.deref.result.now vs c.in_ok-named.ensures.after;
      empty = still_open c.args.unclosed.now _ c.in_ok-number.number (env c.args.env.now) (env c.opened.new.env) (env
          c.all_members.new.env)
          c.in_ok-number.ensures.after c.in_ok-number.ensures.opened c.deref.result.now vs c.in_ok-named.ensures.after;
      members = c.in_ok-named.ensures.members;
    }

pub body_inside-returns-in_err-named-clause-means : goal.body_inside-returns-in_err-named-clause-means
body_inside-returns-in_err-named-clause-means t c =
    let p = err_from_is_err_and c.from_residual-in_err-named.result c.from_residual-in_err-named.ensures.1 in
    rw (p.1, p.2) (members_stopped c.args.line (word_number c.args.word)
    (option_map text_of c.args.tag.now) c.args.members.now
    c.args.unclosed.now
    c.deref.result.now (env c.args.env.now) (env c.opened.new.env) c.in_ok-number.number
    (rw c.is_union.ensures at c.in_ok-number.ensures.means)
    (c.deref.ensures.value ∙ c.in_ok-inner.ensures) _ c.in_err-named.ensures.means)

pub body_inside-returns-in_err-c-clause-means : goal.body_inside-returns-in_err-c-clause-means
body_inside-returns-in_err-c-clause-means t c =
    let p = err_from_is_err_and c.from_residual-in_err-c.result c.from_residual-in_err-c.ensures.1 in
    let vs : c.deref.result.now ≡ c.in_ok-number.number ∷ c.args.unclosed.now = c.deref.ensures.value
    ∙ c.in_ok-inner.ensures in
    rw (p.1, p.2) (closed_stopped c.args.line (word_number c.args.word)
    (option_map text_of c.args.tag.now) c.args.members.now
    c.args.unclosed.now
    c.deref.result.now (env c.args.env.now) (env c.opened.new.env) c.in_ok-number.number
    (rw c.is_union.ensures at c.in_ok-number.ensures.means) vs
    c.in_ok-named.named (env c.all_members.new.env) c.in_ok-named.ensures.means
    (same_word c.args.unclosed.now _ c.in_ok-number.number (env c.args.env.now) (env c.opened.new.env) (env
    c.all_members.new.env)
    c.in_ok-number.ensures.after c.in_ok-number.ensures.opened c.deref.result.now vs c.in_ok-named.ensures.after
    ∙ c.is_union.ensures)
    _ c.in_err-c.ensures.means)

pub body_inside-returns-clause-means : goal.body_inside-returns-clause-means
body_inside-returns-clause-means t c =
    let vs : c.deref.result.now ≡ c.in_ok-number.number ∷ c.args.unclosed.now = c.deref.ensures.value
    ∙ c.in_ok-inner.ensures in
    then_closed c.args.line (word_number c.args.word)
    (option_map text_of c.args.tag.now) c.args.members.now c.args.unclosed.now
    c.deref.result.now (env c.args.env.now) (env c.opened.new.env) c.in_ok-number.number
    (rw c.is_union.ensures at c.in_ok-number.ensures.means) vs
    c.in_ok-named.named (env c.all_members.new.env) c.in_ok-named.ensures.means
    (same_word c.args.unclosed.now _ c.in_ok-number.number (env c.args.env.now) (env c.opened.new.env) (env
    c.all_members.new.env)
    c.in_ok-number.ensures.after c.in_ok-number.ensures.opened c.deref.result.now vs c.in_ok-named.ensures.after
    ∙ c.is_union.ensures)
    ∙ c.in_ok-c.ensures.means

pub body_inside-returns-clause-after : goal.body_inside-returns-clause-after
body_inside-returns-clause-after t c =
    let vs : c.deref.result.now ≡ c.in_ok-number.number ∷ c.args.unclosed.now = c.deref.ensures.value
    ∙ c.in_ok-inner.ensures in
    body_after c.args.unclosed.now _ c.in_ok-number.number (env c.args.env.now) (env c.opened.new.env) (env
    c.all_members.new.env)
    c.in_ok-number.ensures.after c.in_ok-number.ensures.opened c.deref.result.now vs c.in_ok-named.ensures.after (env
    c.closed.new.env)
    c.in_ok-c.ensures.stay c.in_ok-c.ensures.grown c.in_ok-c.ensures.known

pub body_inside-returns-in_err-number-clause-comes : goal.body_inside-returns-in_err-number-clause-comes
body_inside-returns-in_err-number-clause-comes t c =
    let p = err_from_is_err_and c.from_residual.result c.from_residual.ensures.1 in
    let came = Comes (env c.args.env.now) (env c.opened.new.env) in
    rw (p.1, p.2) (on_stop ℕ CType _ came came (λ h. h) c.in_err-number.ensures.comes)

pub body_inside-returns-in_err-named-clause-comes : goal.body_inside-returns-in_err-named-clause-comes
body_inside-returns-in_err-named-clause-comes t c =
    let p = err_from_is_err_and c.from_residual-in_err-named.result c.from_residual-in_err-named.ensures.1 in
    rw (p.1, p.2) (stop_comes rule.Named CType _ (env c.args.env.now) (env c.opened.new.env)
    (env c.all_members.new.env) c.in_ok-number.ensures.comes c.in_err-named.ensures.comes)

pub body_inside-returns-in_err-c-clause-comes : goal.body_inside-returns-in_err-c-clause-comes
body_inside-returns-in_err-c-clause-comes t c =
    let p = err_from_is_err_and c.from_residual-in_err-c.result c.from_residual-in_err-c.ensures.1 in
    rw (p.1, p.2) (stop_comes CType CType _ (env c.args.env.now) (env c.all_members.new.env)
    (env c.closed.new.env)
    (comes_on (env c.args.env.now) (env c.opened.new.env) (env c.all_members.new.env)
    c.in_ok-number.ensures.comes c.in_ok-named.ensures.comes) c.in_err-c.ensures.comes)

pub body_inside-returns-clause-comes : goal.body_inside-returns-clause-comes
body_inside-returns-clause-comes t c =
    comes_on (env c.args.env.now) (env c.all_members.new.env) (env c.closed.new.env)
    (comes_on (env c.args.env.now) (env c.opened.new.env) (env c.all_members.new.env)
    c.in_ok-number.ensures.comes c.in_ok-named.ensures.comes) c.in_ok-c.ensures.comes
