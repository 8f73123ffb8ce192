-- The values of the expressions of movers.
use Rattle.std.proofs.Common.{◌≡◌, ℕ, ◌%◌, ◌^◌, ◌<◌, ℤ, pos, negsuc, true, false, ◌&&◌, List, Option, Some}
use Rattle.std.proofs.Common.{Result, Ok, Err, refl, sym, ◌∙◌, ap, subst, arith}
use Rattle.std.specs.Prelude.{int_le}
use Rattle.std.proofs.lemmas.Bool.{and_parts}
use Rattle.std.proofs.lemmas.Int.{ints}
use Rattle.ep_int.specs.declared.types.IntType.{IntType}
use Rattle.ep_int.specs.declared.types.IntType.TheVariants.{I8, U8, I16, U16, I32, U32, I64, U64}
use Rattle.ep_int.specs.declared.types.BinOp.{BinOp}
use Rattle.ep_int.specs.declared.types.BinOp.TheVariants.{Add, Sub, Mul, Div, Rem, And, Or, Xor, Shl, Shr}
use Rattle.ep_int.specs.declared.types.Order.{Order}
use Rattle.ep_int.specs.declared.types.Scalar.TheVariants.{Int as Number, Pointer}
use Rattle.ep_int.specs.Types.{bytes_of, bits_of, is_signed, InRange, wrapped}
use Rattle.ep_int.specs.Arith.{is_in_range, arith_of}
use Rattle.ep_int.specs.Memory.{int, has, Found, with_place, loaded}
use Rattle.ep_int.proofs.Encodings.{bytes_pow}
use Rattle.ep_int.proofs.Arithmetic.{in_range_from_true}
use Rattle.ep_core.specs.Program.{Place, Expr, const, null_value, load, addr_of, binary, convert, compare, ptr_compare}
use Rattle.ep_core.specs.Program.{logical_and, logical_or, logical_not, conditional, ptr_add, cast, Program}
use Rattle.ep_core.specs.Exec.{State, model, size_at, value, address, frame_of, with_number, result_of}
use Rattle.ep_core.specs.WellFormed.{integer, is_same_type, is_sort, sort_of, has_scalar, ty_at, int_type_of}
use Rattle.ep_core.specs.WellFormed.{right_type}
use Rattle.ep_core.specs.WellFormed.{is_int, place_has, has_sort, is_well_formed}
use Rattle.ep_core.proofs.Sorts.{never, three, same_type, int_where, type_where, loaded_scalar}
use Rattle.ep_movers.specs.declared.Stop.{Stop}
use Rattle.ep_movers.specs.declared.Stop.TheVariants.{Foreign, Faulty}
use Rattle.ep_movers.specs.Symbols.{Symbol, goes_on, fixed_bytes, operated, resized}
use Rattle.ep_movers.specs.Movers.{Machine, bytes_in, loaded_bytes, loaded_from, place_of, symbols}
use Rattle.ep_movers.specs.Forms.{constant, is_moving_op, is_small, has_small_type, may_convert, is_moving}
use Rattle.ep_mover_runs.specs.Following.{number_in, AreBytes, Follows, ValueFollows}
use Rattle.ep_mover_runs.proofs.Numbers.{constant_made}
use Rattle.ep_mover_runs.proofs.Operators.{bytes_few, IsRight, operated_follows, unsigned_follows, promoted_follows}
use Rattle.ep_mover_runs.proofs.Mains.{IsMover}
use Rattle.ep_mover_runs.proofs.Places.{PlaceFollows, placed_number, constant_value}
use Rattle.ep_mover_runs.proofs.Bytes.{load_follows}

-- ---- types

in_range_below : (t : IntType) (n : ℕ) → InRange t (pos n) → n < 2 ^ bits_of t
in_range_below I8 n h = let l = h.high in omega (arith, ints, l)
in_range_below U8 n h = let l = h.high in omega (arith, ints, l)
in_range_below I16 n h = let l = h.high in omega (arith, ints, l)
in_range_below U16 n h = let l = h.high in omega (arith, ints, l)
in_range_below I32 n h = let l = h.high in omega (arith, ints, l)
in_range_below U32 n h = let l = h.high in omega (arith, ints, l)
in_range_below I64 n h = let l = h.high in omega (arith, ints, l)
in_range_below U64 n h = let l = h.high in omega (arith, ints, l)

right_bytes : (inputs : List ℕ) (op : BinOp) (u r : IntType) (own : Option IntType) (ys : List Symbol)
    → right_type op u own ≡ Some r → AreBytes (bytes_of r) ys → IsRight inputs op u ys
right_bytes inputs Add u r own ys e h = let same : u ≡ r = cc in subst (λ k. AreBytes (bytes_of k) ys) (sym same) h
right_bytes inputs Sub u r own ys e h = let same : u ≡ r = cc in subst (λ k. AreBytes (bytes_of k) ys) (sym same) h
right_bytes inputs Mul u r own ys e h = let same : u ≡ r = cc in subst (λ k. AreBytes (bytes_of k) ys) (sym same) h
right_bytes inputs Div u r own ys e h = let same : u ≡ r = cc in subst (λ k. AreBytes (bytes_of k) ys) (sym same) h
right_bytes inputs Rem u r own ys e h = let same : u ≡ r = cc in subst (λ k. AreBytes (bytes_of k) ys) (sym same) h
right_bytes inputs And u r own ys e h = let same : u ≡ r = cc in subst (λ k. AreBytes (bytes_of k) ys) (sym same) h
right_bytes inputs Or u r own ys e h = let same : u ≡ r = cc in subst (λ k. AreBytes (bytes_of k) ys) (sym same) h
right_bytes inputs Xor u r own ys e h = let same : u ≡ r = cc in subst (λ k. AreBytes (bytes_of k) ys) (sym same) h
right_bytes inputs Shl u r own ys e h = tt
right_bytes inputs Shr u r own ys e h = tt

-- ---- ways to go on

module _ (inputs : List ℕ) where
  constant_follows : (t : IntType) (v : ℤ) → int_le (pos 0) v ≡ true → is_in_range t v ≡ true
      → ValueFollows inputs t (Ok (fixed_bytes v 0 (bytes_of t))) (has (int v))
  constant_follows t (pos n) h r =
      let range = in_range_from_true t (pos n) r in
      let small = in_range_below t n range in
      let made = constant_made inputs n (bytes_of t) (bytes_few t) (omega (arith, small, bytes_pow (bytes_of t))) in (
        ap (λ k. has (int (pos k))) (sym made.number),
        subst (λ k. InRange t (pos k)) (sym made.number) range,
        made.bytes,
      )
  constant_follows t (negsuc n) h r = never h

  both_follow : (op : BinOp) (t u : IntType) (c d : Option ℤ) (ra rb : Result (List Symbol) Stop) (va vb : Found)
      → ValueFollows inputs t ra va → ValueFollows inputs u rb vb
      → ((xs ys : List Symbol) → va ≡ has (int (pos (number_in inputs xs))) → vb ≡ has (int (pos (number_in inputs ys)))
      → AreBytes (bytes_of t) xs → AreBytes (bytes_of u) ys
      → ValueFollows inputs t (operated op c d xs ys)
      (result_of (arith_of op t (pos (number_in inputs xs)) (pos (number_in inputs ys)))))
      → ValueFollows inputs t (goes_on ra (λ xs. goes_on rb (operated op c d xs)))
      (with_number va (λ x. with_number vb (λ y. result_of (arith_of op t x y))))
  both_follow op t u c d (Ok xs) (Ok ys) va vb h i go =
      subst (λ (v : Found). ValueFollows inputs t (operated op c d xs ys)
      (with_number v (λ x. with_number vb (λ y. result_of (arith_of op t x y))))) (sym h.0)
      (subst (λ (v : Found). ValueFollows inputs t (operated op c d xs ys)
      (with_number v (λ y. result_of (arith_of op t (pos (number_in inputs xs)) y)))) (sym i.0)
      (go xs ys h.0 i.0 h.2 i.2))
  both_follow op t u c d (Ok xs) (Err Foreign) va vb h i go = tt
  both_follow op t u c d (Ok xs) (Err Faulty) va vb h i go = (
    i.0,
    ap (λ (v : Found). with_number v (λ x. with_number vb (λ y. result_of (arith_of op t x y)))) h.0
        ∙ ap (λ (v : Found). with_number v (λ y. result_of (arith_of op t (pos (number_in inputs xs)) y))) i.1,
  )
  both_follow op t u c d (Err Foreign) rb va vb h i go = tt
  both_follow op t u c d (Err Faulty) rb va vb h i go =
      (h.0, ap (λ (v : Found). with_number v (λ x. with_number vb (λ y. result_of (arith_of op t x y)))) h.1)

  convert_follows : (t u : IntType) (r : Result (List Symbol) Stop) (v : Found) → ValueFollows inputs u r v
      → ((xs : List Symbol) → AreBytes (bytes_of u) xs
      → ValueFollows inputs t (Ok (resized t xs)) (has (int (wrapped t (pos (number_in inputs xs))))))
      → ValueFollows inputs t (goes_on r (λ xs. Ok (resized t xs))) (with_number v (λ z. has (int (wrapped t z))))
  convert_follows t u (Ok xs) v h go =
      subst (λ (w : Found). ValueFollows inputs t (Ok (resized t xs)) (with_number w (λ z. has (int (wrapped t z)))))
      (sym h.0)
      (go xs h.2)
  convert_follows t u (Err Foreign) v h go = tt
  convert_follows t u (Err Faulty) v h go = (h.0, ap (λ (w : Found). with_number w (λ z. has (int (wrapped t z)))) h.1)

same_value : (v : Found) (c d : ℤ) → v ≡ has (int c) → v ≡ has (int d) → c ≡ d
same_value v c d h i = let same : has (int c) ≡ has (int d) = sym h ∙ i in cc

-- ---- expressions

module _ (p : Program) (formed : is_well_formed p ≡ true) (g : IsMover p) where
  abbrev seen : List ℕ
  seen = frame_of g.main

  loaded_type : (a : Place) (t u : IntType) → has_sort p.types p.blocks seen (load (Number u) a) (integer t) ≡ true
      → (ty : ℕ) × (has_scalar (ty_at p.types p.blocks seen ty) (Number u) ≡ true)
      × (place_has p.types p.blocks seen a ty ≡ true) × (u ≡ t)
  loaded_type a t u h =
      let s = type_where p.types p.blocks seen (λ x. has_scalar x (Number u) && is_sort (sort_of x) (integer t))
      (place_has p.types p.blocks seen a) h in
      let both = and_parts (has_scalar (ty_at p.types p.blocks seen s.0) (Number u))
      (is_sort (sort_of (ty_at p.types p.blocks seen s.0)) (integer t)) s.1 in
      let scalars : Number u ≡ Number t = loaded_scalar (ty_at p.types p.blocks seen s.0) (Number u) (integer t) s.1 in
      let same : u ≡ t = cc in
      (s.0, both.0, s.2, same)

  small_sort : (e : Expr) (t : IntType) → has_small_type e ≡ true → has_sort p.types p.blocks seen e (integer t) ≡ true
      → is_small t ≡ true
  small_sort (const u v) t h i =
      let same = same_type t u (and_parts (is_same_type t u) (is_in_range u v) i).0 in
      subst (λ k. is_small k ≡ true) (sym same) h
  small_sort (load (Number u) a) t h i = subst (λ k. is_small k ≡ true) (loaded_type a t u i).3 h
  small_sort (binary op u a b) t h i =
      let same = same_type t u (three (is_same_type t u) (has_sort p.types p.blocks seen a (integer u))
      (is_int (right_type op u (int_type_of b)) (has_sort p.types p.blocks seen b)) i).0 in
      subst (λ k. is_small k ≡ true) (sym same) h
  small_sort (convert u e) t h i =
      let same = same_type t u (and_parts (is_same_type t u)
      (is_int (int_type_of e) (has_sort p.types p.blocks seen e)) i).0 in
      subst (λ k. is_small k ≡ true) (sym same) h
  small_sort (load Pointer a) t h i = never h
  small_sort null_value t h i = never h
  small_sort (addr_of a) t h i = never h
  small_sort (compare c u a b) t h i = never h
  small_sort (ptr_compare c a b) t h i = never h
  small_sort (logical_and a b) t h i = never h
  small_sort (logical_or a b) t h i = never h
  small_sort (logical_not e) t h i = never h
  small_sort (conditional e a b) t h i = never h
  small_sort (ptr_add e unit n back) t h i = never h
  small_sort (cast e) t h i = never h

  converts : (inputs : List ℕ) (e : Expr) (t u : IntType) → may_convert t e ≡ true
      → has_sort p.types p.blocks seen e (integer u) ≡ true → (xs : List Symbol) → AreBytes (bytes_of u) xs
      → ValueFollows inputs t (Ok (resized t xs)) (has (int (wrapped t (pos (number_in inputs xs)))))
  converts inputs e I8 u h i xs k = never h
  converts inputs e U8 u h i xs k = unsigned_follows inputs U8 u xs refl k
  converts inputs e I16 u h i xs k = never h
  converts inputs e U16 u h i xs k = unsigned_follows inputs U16 u xs refl k
  converts inputs e I32 u h i xs k = promoted_follows inputs u xs (small_sort e u h i) k
  converts inputs e U32 u h i xs k = unsigned_follows inputs U32 u xs refl k
  converts inputs e I64 u h i xs k = never h
  converts inputs e U64 u h i xs k = unsigned_follows inputs U64 u xs refl k

  module _ (o : Order) (inputs : List ℕ) (s : State) (m : Machine) (f : Follows o p inputs s m) where
    load_at : (t : IntType) (b q : ℕ) → is_signed t ≡ false → q % bytes_of t ≡ 0
        → ValueFollows inputs t (loaded_bytes o (bytes_in m.memory b) q (bytes_of t) 0 (bytes_of t))
        (loaded o (model o p) (size_at o p b) s.memory (Number t) b q)
    load_at t b q e aligned =
        subst (λ n. ValueFollows inputs t (loaded_bytes o (bytes_in m.memory b) q (bytes_of t) 0 (bytes_of t))
        (loaded o (model o p) n s.memory (Number t) b q)) (f.sizes b)
        (load_follows o (model o p) inputs s.memory b (bytes_in m.memory b) t q e aligned
        (λ r l. f.memory b r (subst (λ n. r < n) (f.sizes b) l)) (λ r. f.bytes b r))

    load_by : (t : IntType) (r : Result (ℕ × ℕ) Stop) (v : Found) → is_signed t ≡ false → PlaceFollows (bytes_of t) r v
        → ValueFollows inputs t
        (goes_on r (λ w. loaded_bytes o (bytes_in m.memory w.0) w.1 (bytes_of t) 0 (bytes_of t)))
        (with_place v (λ b q. loaded o (model o p) (size_at o p b) s.memory (Number t) b q))
    load_by t (Ok w) v e h =
        subst (λ (x : Found). ValueFollows inputs t
        (loaded_bytes o (bytes_in m.memory w.0) w.1 (bytes_of t) 0 (bytes_of t))
        (with_place x (λ b q. loaded o (model o p) (size_at o p b) s.memory (Number t) b q))) (sym h.0)
        (load_at t w.0 w.1 e h.1)
    load_by t (Err Foreign) v e h = tt
    load_by t (Err Faulty) v e h = (
      h.0,
      ap (λ (x : Found). with_place x
          (λ b q. loaded o (model o p) (size_at o p b) s.memory (Number t) b q)) h.1,
    )

    pub expression_follows : (e : Expr) (t : IntType) → is_moving e ≡ true
        → has_sort p.types p.blocks seen e (integer t) ≡ true
        → ValueFollows inputs t (symbols o m.memory e) (value o p e s.memory)
    expression_follows (const u v) t h i =
        let q = and_parts (is_same_type t u) (is_in_range u v) i in
        subst (λ k. ValueFollows inputs k (Ok (fixed_bytes v 0 (bytes_of u))) (has (int v))) (sym (same_type t u q.0))
        (constant_follows inputs u v h q.1)
    expression_follows (load (Number u) a) t h i =
        let typed = loaded_type a t u i in
        let placed = placed_number p formed g o s.memory a u typed.0 h typed.2 typed.1 in
        subst (λ k. ValueFollows inputs k (loaded_from o m.memory (Number u) a)
        (value o p (load (Number u) a) s.memory)) typed.3
        (load_by u (place_of a) (address o p a s.memory) placed.unsigned placed.at)
    expression_follows (binary op u a b) t h i =
        let form = and_parts (is_moving_op op u (constant a) (constant b)) (is_moving a && is_moving b) h in
        let parts = and_parts (is_moving a) (is_moving b) form.1 in
        let typed = three (is_same_type t u) (has_sort p.types p.blocks seen a (integer u))
        (is_int (right_type op u (int_type_of b)) (has_sort p.types p.blocks seen b)) i in
        let own = int_where (right_type op u (int_type_of b)) (has_sort p.types p.blocks seen b) typed.2 in
        subst (λ k. ValueFollows inputs k (symbols o m.memory (binary op u a b)) (value o p (binary op u a b) s.memory))
        (sym (same_type t u typed.0))
        (both_follow inputs op u own.0 (constant a) (constant b) (symbols o m.memory a) (symbols o m.memory b)
        (value o p a s.memory) (value o p b s.memory)
        (expression_follows a u parts.0 typed.1) (expression_follows b own.0 parts.1 own.2)
        (λ xs ys va vb l r. operated_follows inputs op u (constant a) (constant b) xs ys form.0 l
        (right_bytes inputs op u own.0 (int_type_of b) ys own.1 r)
        (λ c q. same_value (value o p a s.memory) c (pos (number_in inputs xs)) (constant_value o p s.memory a c q) va)
        (λ c q. same_value (value o p b s.memory) c (pos (number_in inputs ys))
        (constant_value o p s.memory b c q) vb)))
    expression_follows (convert u e) t h i =
        let form = and_parts (may_convert u e) (is_moving e) h in
        let typed = and_parts (is_same_type t u) (is_int (int_type_of e) (has_sort p.types p.blocks seen e)) i in
        let own = int_where (int_type_of e) (has_sort p.types p.blocks seen e) typed.1 in
        subst (λ k. ValueFollows inputs k (symbols o m.memory (convert u e)) (value o p (convert u e) s.memory))
        (sym (same_type t u typed.0))
        (convert_follows inputs u own.0 (symbols o m.memory e) (value o p e s.memory)
        (expression_follows e own.0 form.1 own.2) (converts inputs e u own.0 form.0 own.2))
    expression_follows null_value t h i = never h
    expression_follows (load Pointer a) t h i = never h
    expression_follows (addr_of a) t h i = never h
    expression_follows (compare c u a b) t h i = never h
    expression_follows (ptr_compare c a b) t h i = never h
    expression_follows (logical_and a b) t h i = never h
    expression_follows (logical_or a b) t h i = never h
    expression_follows (logical_not e) t h i = never h
    expression_follows (conditional e a b) t h i = never h
    expression_follows (ptr_add e unit n back) t h i = never h
    expression_follows (cast e) t h i = never h
