-- Equal types are one type.
use Rattle.std.specs.Prelude.{◌≡◌, ℕ, Bool, true, false, cond, ◌==◌, refl}
use Rattle.ep_core.proofs.Sorts.{same_type}
use Rattle.std.specs.Cmp.{IsPartialEquivalence, IsEquivalence, equiv, both_ways}
use Rattle.std.proofs.Common.{◌∙◌, sym, ap, subst, true≢false}
use borrow.Author.Tests.{eqb-true, eq-eqb}
use Rattle.ep_int.specs.declared.types.IntType.{IntType}
use Rattle.ep_int.specs.declared.types.IntType.TheVariants.{I8, U8, I16, U16, I32, U32, I64, U64}
use Rattle.ep_core.specs.WellFormed.{is_same_type}
use Rattle.ep_typing.specs.declared.types.Base.{Base}
use Rattle.ep_typing.specs.declared.types.Base.TheVariants as bases
use Rattle.ep_typing.specs.declared.types.CType.{CType}
use Rattle.ep_typing.specs.Types.{is_same_base, is_same}

pub int_itself : (t : IntType) → is_same_type t t ≡ true
int_itself I8 = refl
int_itself U8 = refl
int_itself I16 = refl
int_itself U16 = refl
int_itself I32 = refl
int_itself U32 = refl
int_itself I64 = refl
int_itself U64 = refl

pub same_bases : (b c : Base) → is_same_base b c ≡ true → b ≡ c
same_bases bases.Void bases.Void h = refl
same_bases (bases.Int t) (bases.Int u) h = ap bases.Int (same_type t u h)
same_bases (bases.Array m) (bases.Array n) h = ap (λ (k : ℕ). bases.Array k) (eqb-true m n h)
same_bases (bases.Aggregate a) (bases.Aggregate b) h = ap (λ (k : ℕ). bases.Aggregate k) (eqb-true a b h)
same_bases b c h = absurd (true≢false (sym h))

pub base_itself : (b : Base) → is_same_base b b ≡ true
base_itself bases.Void = refl
base_itself (bases.Int t) = int_itself t
base_itself (bases.Array n) = eq-eqb n n refl
base_itself (bases.Aggregate a) = eq-eqb a a refl

base_along : (b c : Base) → b ≡ c → is_same_base b c ≡ true
base_along b c e = subst (λ (d : Base). is_same_base b d ≡ true) e (base_itself b)

base_back : (b c : Base) → is_same_base b c ≡ true → is_same_base c b ≡ true
base_back b c h = base_along c b (sym (same_bases b c h))

pub base_partial : IsPartialEquivalence is_same_base
base_partial = record {
  symm = λ b c. both_ways (is_same_base b c) (is_same_base c b) (base_back b c) (base_back c b);
  trans = λ b c d p q. base_along b d (same_bases b c p ∙ same_bases c d q);
}

pub base_equivalence : IsEquivalence is_same_base
base_equivalence = equiv base_partial base_itself

same_parts : (s : Bool) (b c : Base) (m n : ℕ) → (m == n) ≡ s → cond s (is_same_base b c) false ≡ true
    → ◌≡◌ {A = CType} (record { base = b; stars = m }) (record { base = c; stars = n })
same_parts true b c m n e h =
    ap (λ (d : Base). record { base = d; stars = m }) (same_bases b c h)
    ∙ ap (λ (k : ℕ). record { base = c; stars = k }) (eqb-true m n e)
same_parts false b c m n e h = absurd (true≢false (sym h))

pub same_types : (c d : CType) → is_same c d ≡ true → c ≡ d
same_types c d h = same_parts (c.stars == d.stars) c.base d.base c.stars d.stars refl h

itself_at : (s : Bool) (b : Base) → s ≡ true → cond s (is_same_base b b) false ≡ true
itself_at true b e = base_itself b
itself_at false b e = absurd (true≢false (sym e))

pub same_itself : (c : CType) → is_same c c ≡ true
same_itself c = itself_at (c.stars == c.stars) c.base (eq-eqb c.stars c.stars refl)

same_along : (c d : CType) → c ≡ d → is_same c d ≡ true
same_along c d e = subst (λ (x : CType). is_same c x ≡ true) e (same_itself c)

same_back : (c d : CType) → is_same c d ≡ true → is_same d c ≡ true
same_back c d h = same_along d c (sym (same_types c d h))

pub partial : IsPartialEquivalence is_same
partial = record {
  symm = λ c d. both_ways (is_same c d) (is_same d c) (same_back c d) (same_back d c);
  trans = λ b c d p q. same_along b d (same_types b c p ∙ same_types c d q);
}

pub equivalence : IsEquivalence is_same
equivalence = equiv partial same_itself
