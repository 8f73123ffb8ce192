-- The law of straight programs, over what is shown of each byte that is put out.
use Rattle.std.proofs.Common.{◌≡◌, ℕ, inl, inr, true, nat_le, slice_get, subst}
use Rattle.std.proofs.lemmas.Bool.{or_cases}
use Rattle.std.proofs.lemmas.Bool.{and_parts, leb-true}
use Rattle.ep_int.specs.declared.types.Order.{Order}
use Rattle.ep_domain.specs.Domain.{Ops, Lawful}
use Rattle.ep_core.specs.Program.{block, deref, member, element, const, null_value, load, addr_of, binary, convert}
use Rattle.ep_core.specs.Program.{compare, ptr_compare, logical_and, logical_or, logical_not, conditional, ptr_add}
use Rattle.ep_core.specs.Program.{cast, Program}
use Rattle.ep_core.specs.Runs.{Side, left, right}
use Rattle.ep_core.specs.WellFormed.{is_length, is_address, is_array_of, some_type, is_named, block_has, place_has}
use Rattle.ep_core.specs.WellFormed.{has_sort, is_well_formed}
use Rattle.ep_core.proofs.Sorts.{type_where, pointer_where}
use Rattle.ep_pass.specs.Laws.{AreOther}
use Rattle.ep_straight_laws.specs.Straight.{is_straight_body, is_straight}
use Rattle.ep_straight_laws.specs.Laws.{has_little, MeetsKeepSingles, IsExact, IsStraightExact}
use Rattle.ep_straight_laws.proofs.Gathered.{Main, main_is, seen, BytesJudged, exact_by}
use Rattle.ep_straight_laws.proofs.Bytes.{front_is}
use Rattle.ep_straight_laws.proofs.Outputs.{FineBytes, judged_front}
use Rattle.ep_straight_laws.proofs.Starts.{starts}
use Rattle.ep_straight_laws.proofs.Endings.{end_quiet}

module _ {N : Type 0} (D : Ops N) (law : Lawful D) (meets : MeetsKeepSingles D) where
  module _ (p : Program) (formed : is_well_formed p ≡ true) (ord : Side → Order) (main : Main p) where
    abbrev pub Fine : Type 0
    Fine = FineBytes D law p formed ord (seen D law meets p formed ord main) main.r main.f.result

    block_named : (b ty : ℕ) → place_has p.types p.blocks (seen D law meets p formed ord main) (block b) ty ≡ true
        → is_named p.types p.blocks (seen D law meets p formed ord main) b ≡ true
    block_named b ty h =
        (and_parts (is_named p.types p.blocks (seen D law meets p formed ord main) b)
        (block_has p.types p.blocks (seen D law meets p formed ord main) (slice_get p.blocks b) ty) h).0

    front_named : (b : ℕ) → is_address p.types p.blocks (seen D law meets p formed ord main) (addr_of (block b))
        ≡ true
        → is_named p.types p.blocks (seen D law meets p formed ord main) b ≡ true
    front_named b h =
        let bs = seen D law meets p formed ord main in
        let q = pointer_where p.types p.blocks bs (has_sort p.types p.blocks bs (addr_of (block b))) h in
        elim (or_cases (place_has p.types p.blocks bs (block b) q.0)
        (some_type p.types p.blocks bs (λ u. is_array_of u q.0) (place_has p.types p.blocks bs (block b))) q.1) [
          | inl e ↦ block_named b q.0 e
          | inr e ↦ (let z = type_where p.types p.blocks bs (λ u. is_array_of u q.0)
              (place_has p.types p.blocks bs (block b)) e in block_named b z.0 z.2)
        ]

    bytes_judged : Fine → BytesJudged D law meets p formed ord main
    bytes_judged fine (addr_of (block b)) c g h l n m k x y v =
        let bs = seen D law meets p formed ord main in
        let a = and_parts (is_length c) (is_address p.types p.blocks bs (addr_of (block b))) h in
        let some = leb-true 1 c (and_parts (nat_le 1 c) (nat_le c 65536) a.0).0 in
        let t = front_is p b c g some in
        judged_front D law p formed ord bs main.r main.f.result b t.0 t.1 c t.2 some l n m fine k x y v
        (v.vars b t.0 t.1 (front_named b a.1))
    bytes_judged fine (addr_of (deref e)) c g h l n m k x y v = absurd (cc)
    bytes_judged fine (addr_of (member d o)) c g h l n m k x y v = absurd (cc)
    bytes_judged fine (addr_of (element d s u i)) c g h l n m k x y v = absurd (cc)
    bytes_judged fine (const t z) c g h l n m k x y v = absurd (cc)
    bytes_judged fine null_value c g h l n m k x y v = absurd (cc)
    bytes_judged fine (load w d) c g h l n m k x y v = absurd (cc)
    bytes_judged fine (binary o t d e) c g h l n m k x y v = absurd (cc)
    bytes_judged fine (convert t e) c g h l n m k x y v = absurd (cc)
    bytes_judged fine (compare o t d e) c g h l n m k x y v = absurd (cc)
    bytes_judged fine (ptr_compare o d e) c g h l n m k x y v = absurd (cc)
    bytes_judged fine (logical_and d e) c g h l n m k x y v = absurd (cc)
    bytes_judged fine (logical_or d e) c g h l n m k x y v = absurd (cc)
    bytes_judged fine (logical_not e) c g h l n m k x y v = absurd (cc)
    bytes_judged fine (conditional o d e) c g h l n m k x y v = absurd (cc)
    bytes_judged fine (ptr_add e u i back) c g h l n m k x y v = absurd (cc)
    bytes_judged fine (cast e) c g h l n m k x y v = absurd (cc)

  -- what is shown of each byte, where one machine is little-endian
  abbrev pub AllFine : Type 0
  AllFine =
      (p : Program) (formed : is_well_formed p ≡ true) (ord : Side → Order) → has_little (ord left) (ord right) ≡ true
      → AreOther ord → (main : Main p) → Fine p formed ord main

  exact_for : (p : Program) (formed : is_well_formed p ≡ true) (ord : Side → Order) → AreOther ord
      → is_straight p ≡ true
      → Fine p formed ord (main_is p formed) → IsExact D p ord
  exact_for p formed ord other g fine =
      let m = main_is p formed in
      exact_by D law meets p formed ord m (bytes_judged p formed ord m fine) other (subst
      (λ f. is_straight_body p f ≡ true) m.here g) (record {
        starts = starts D law meets p formed ord m other;
        ends = end_quiet D law meets p formed ord m;
      })

  pub straight_exact : AllFine → IsStraightExact D
  straight_exact fine p formed g ord little other =
      exact_for p formed ord other g (fine p formed ord little other (main_is p formed))
