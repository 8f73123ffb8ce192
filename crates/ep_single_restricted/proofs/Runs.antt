-- A machine does the same where its memory becomes undefined outside of all blocks.
use Rattle.std.proofs.Common.{◌≡◌, ℕ, ℤ, pos, false, ◌&&◌, nat_eq, List, [], ◌∷◌, Option, Some, None}
use Rattle.std.proofs.Common.{option_to_list, refl, ◌∙◌, ap}
use Rattle.ep_int.specs.declared.types.IntType.TheVariants.{U8}
use Rattle.ep_int.specs.declared.types.Order.{Order}
use Rattle.ep_int.specs.declared.types.Scalar.{Scalar}
use Rattle.ep_int.specs.Types.{representation, wrapped}
use Rattle.ep_int.specs.Memory.{number, Memory, Value, int, null, pointer, Found, has, faults, loaded, filled}
use Rattle.ep_int.specs.Memory.{range_fault}
use Rattle.ep_core.specs.Program.{Expr, Dest, Simple, nothing, eval, assign, clear, copy_aggregate, copy_bytes, fill}
use Rattle.ep_core.specs.Program.{input, output, read_bytes, write_bytes, returns, Function, Program}
use Rattle.ep_core.specs.Exec.{State, on, Outcome, leaves, given, with_int, at_place, unless, Counting}
use Rattle.ep_core.specs.Exec.{put_out, without, bytewise_rest, Values, have, stops, given_all, first_of}
use Rattle.ep_core.specs.Exec.{frame_of, model, size_at, bytes_in, value, address, values, put_to, put_dest}
use Rattle.ep_core.specs.Exec.{put_result, change, cleared, cleared_byte, copy_at, out_of, into, does, bound, received}
use Rattle.ep_core.specs.Runs.{result_out, main_ends}
use Rattle.ep_pass.specs.Laws.{passes}
use Rattle.ep_single_restricted.specs.Restricted.{restricted, restricted_state, restricted_outcome}
use Rattle.ep_single_restricted.specs.Laws.{IsRestricted}
use Rattle.ep_single_restricted.proofs.Bytes.{loaded_there, replaced_there, killed_there}
use Rattle.ep_single_restricted.proofs.Values.{values_there, places_there, all_there}
use Rattle.ep_single_restricted.proofs.Changes.{Goes, given_there, int_there, at_there, unless_there, taken_there}
use Rattle.ep_single_restricted.proofs.Changes.{bytewise_there, in_range, put_there, put_to_there, dest_there}
use Rattle.ep_single_restricted.proofs.Changes.{result_there, change_there, copy_there, byte_out_there, byte_in_there}
use Rattle.ep_single_restricted.proofs.Changes.{without_there}

module _ (o : Order) (p : Program) where
  abbrev R : Memory → Memory
  R = restricted p

  abbrev S : State → State
  S = restricted_state p

  abbrev O : Outcome → Outcome
  O = restricted_outcome p

  -- a statement with a value, and with an address
  value_given : (e : Expr) (l : ℕ) (s : State) (go to : Value → Outcome) → ((v : Value) → go v ≡ O (to v))
      → given (value o p e (R s.memory)) l (S s) go ≡ O (given (value o p e s.memory) l s to)
  value_given e l s go to h =
      ap (λ f. given f l (S s) go) (values_there o p e s.memory) ∙ given_there p (value o p e s.memory) l s go to h

  place_given : (a : _) (l : ℕ) (s : State) (go to : Value → Outcome) → ((v : Value) → go v ≡ O (to v))
      → given (address o p a (R s.memory)) l (S s) go ≡ O (given (address o p a s.memory) l s to)
  place_given a l s go to h =
      ap (λ f. given f l (S s) go) (places_there o p a s.memory)
      ∙ given_there p (address o p a s.memory) l s go to h

  left_there : (n : ℕ) → Goes p (leaves on n)
  left_there n s = refl

  cleared_there : (ty b q : ℕ) (m : Memory) → range_fault (size_at o p b) q (bytes_in o p ty) ≡ None
      → R (cleared o p ty m b q) ≡ cleared o p ty (R m) b q
  cleared_there ty b q m e =
      replaced_there o p (model o p) m b q (bytes_in o p ty) (cleared_byte o p ty) (cleared_byte o p ty)
      (in_range p o b q (bytes_in o p ty) e) (λ k i. refl)

  filled_there : (b q n x : ℕ) (m : Memory) → range_fault (size_at o p b) q n ≡ None
      → R (filled (model o p) m b q n x) ≡ filled (model o p) (R m) b q n x
  filled_there b q n x m e =
      replaced_there o p (model o p) m b q n (λ k. number x) (λ k. number x) (in_range p o b q n e) (λ k i. refl)

  returned_there : (r : Option (ℕ × Scalar)) (e : Option Expr) (c : Counting) (l n : ℕ)
      → Goes p (does o p c r (returns e) l n)
  returned_there r None c l n s = refl
  returned_there r (Some e) c l n s =
      value_given e l s (λ v. put_result o p r v l n (S s)) (λ v. put_result o p r v l n s)
      (λ v. result_there p o r v l n s)

  module _ (c : Counting) (r : Option (ℕ × Scalar)) where
    pub does_there : (w : Simple) (l n : ℕ) → Goes p (does o p c r w l n)
    does_there nothing l n s = refl
    does_there (eval e) l n s = value_given e l s (λ v. leaves on n (S s)) (λ v. leaves on n s) (λ v. refl)
    does_there (assign w a e) l n s =
        place_given a l s
        (λ u. given (value o p e (R s.memory)) l (S s) (λ v. put_to o p w u v l (S s) (leaves on n)))
        (λ u. given (value o p e s.memory) l s (λ v. put_to o p w u v l s (leaves on n)))
        (λ u. value_given e l s (λ v. put_to o p w u v l (S s) (leaves on n)) (λ v. put_to o p w u v l s (leaves on n))
        (λ v. put_to_there p o w u v l s (leaves on n) (left_there n)))
    does_there (clear a ty) l n s =
        place_given a l s
        (λ u. at_place u l (S s) (λ b q. change o p b q (bytes_in o p ty) (cleared o p ty (R s.memory) b q) l n (S s)))
        (λ u. at_place u l s (λ b q. change o p b q (bytes_in o p ty) (cleared o p ty s.memory b q) l n s))
        (λ u. at_there p u l s
        (λ b q. change o p b q (bytes_in o p ty) (cleared o p ty (R s.memory) b q) l n (S s))
        (λ b q. change o p b q (bytes_in o p ty) (cleared o p ty s.memory b q) l n s)
        (λ b q. change_there p o b q (bytes_in o p ty) (cleared o p ty (R s.memory) b q)
        (cleared o p ty s.memory b q) l n s (cleared_there ty b q s.memory)))
    does_there (copy_aggregate a d ty) l n s =
        place_given a l s (λ u. given (address o p d (R s.memory)) l (S s) (λ v. copies u v (S s)))
        (λ u. given (address o p d s.memory) l s (λ v. copies u v s))
        (λ u. place_given d l s (λ v. copies u v (S s)) (λ v. copies u v s)
        (λ v. at_there p u l s (λ b q. from v b q (S s)) (λ b q. from v b q s)
        (λ b q. at_there p v l s (λ f g. to b q f g (S s)) (λ f g. to b q f g s)
        (λ f g. copy_there p o b q f g (bytes_in o p ty) (nat_eq b f && nat_eq q g) l n s))))
      where
        to : (b q f g : ℕ) → State → Outcome
        to b q f g s = copy_at o p b q f g (bytes_in o p ty) (nat_eq b f && nat_eq q g) l n s

        from : Value → (b q : ℕ) → State → Outcome
        from v b q s = at_place v l s (λ f g. to b q f g s)

        copies : Value → Value → State → Outcome
        copies u v s = at_place u l s (λ b q. from v b q s)
    does_there (copy_bytes a d k) l n s =
        value_given a l s (λ u. given (value o p d (R s.memory)) l (S s) (λ v. copies u v (S s)))
        (λ u. given (value o p d s.memory) l s (λ v. copies u v s))
        (λ u. value_given d l s (λ v. copies u v (S s)) (λ v. copies u v s)
        (λ v. at_there p u l s (λ b q. from v b q (S s)) (λ b q. from v b q s)
        (λ b q. at_there p v l s (λ f g. copy_at o p b q f g k false l n (S s))
        (λ f g. copy_at o p b q f g k false l n s) (λ f g. copy_there p o b q f g k false l n s))))
      where
        from : Value → (b q : ℕ) → State → Outcome
        from v b q s = at_place v l s (λ f g. copy_at o p b q f g k false l n s)

        copies : Value → Value → State → Outcome
        copies u v s = at_place u l s (λ b q. from v b q s)
    does_there (fill a e k) l n s =
        value_given a l s (λ u. given (value o p e (R s.memory)) l (S s) (λ v. fills u v (S s)))
        (λ u. given (value o p e s.memory) l s (λ v. fills u v s))
        (λ u. value_given e l s (λ v. fills u v (S s)) (λ v. fills u v s)
        (λ v. int_there p v l s (λ x. there u x (S s)) (λ x. there u x s)
        (λ x. at_there p u l s (λ b q. at x b q (S s)) (λ b q. at x b q s)
        (λ b q. change_there p o b q k (filled (model o p) (R s.memory) b q k (representation U8 x))
        (filled (model o p) s.memory b q k (representation U8 x)) l n s
        (filled_there b q k (representation U8 x) s.memory)))))
      where
        at : ℤ → (b q : ℕ) → State → Outcome
        at x b q s = change o p b q k (filled (model o p) s.memory b q k (representation U8 x)) l n s

        there : Value → ℤ → State → Outcome
        there u x s = at_place u l s (λ b q. at x b q s)

        fills : Value → Value → State → Outcome
        fills u v s = with_int v l s (λ x. there u x s)
    does_there (input t d) l n s =
        taken_there p s.inputs s (λ v r. put_dest o p d (int (wrapped t (pos v))) l n r)
        (λ v r. dest_there p o d (int (wrapped t (pos v))) l n r)
    does_there (output t e) l n s =
        value_given e l s (λ v. with_int v l (S s) (λ x. leaves on n (put_out t x (S s))))
        (λ v. with_int v l s (λ x. leaves on n (put_out t x s)))
        (λ v. int_there p v l s (λ x. leaves on n (put_out t x (S s))) (λ x. leaves on n (put_out t x s)) (λ x. refl))
    does_there (read_bytes e k) l n s =
        value_given e l s (λ u. reads u (S s)) (λ u. reads u s)
        (λ u. at_there p u l s (λ b q. from b q (S s)) (λ b q. from b q s)
        (λ b q. unless_there p (range_fault (size_at o p b) q k) l s (bytewise_rest c (into o p b) k q n (S s))
        (bytewise_rest c (into o p b) k q n s)
        (λ e. bytewise_there p c (into o p b) (size_at o p b) (byte_in_there p o b) k q (in_range p o b q k e) n s)))
      where
        from : (b q : ℕ) → State → Outcome
        from b q s = unless (range_fault (size_at o p b) q k) l s (bytewise_rest c (into o p b) k q n s)

        reads : Value → State → Outcome
        reads u s = at_place u l s (λ b q. from b q s)
    does_there (write_bytes e k) l n s =
        value_given e l s (λ u. writes u (S s)) (λ u. writes u s)
        (λ u. at_there p u l s (λ b q. from b q (S s)) (λ b q. from b q s)
        (λ b q. unless_there p (range_fault (size_at o p b) q k) l s (bytewise_rest c (out_of o p b l) k q n (S s))
        (bytewise_rest c (out_of o p b l) k q n s)
        (λ e. bytewise_there p c (out_of o p b l) (size_at o p b) (byte_out_there p o b l) k q (in_range p o b q k e) n
        s)))
      where
        from : (b q : ℕ) → State → Outcome
        from b q s = unless (range_fault (size_at o p b) q k) l s (bytewise_rest c (out_of o p b l) k q n s)

        writes : Value → State → Outcome
        writes u s = at_place u l s (λ b q. from b q s)
    does_there (returns e) l n s = returned_there r e c l n s

  -- ---- calls

  bound_there : (bs : List (ℕ × Scalar)) (vs : List Value) (l : ℕ) (go : State → Outcome) → Goes p go
      → Goes p (λ s. bound o p bs vs l s go)
  bound_there [] vs l go h s = h s
  bound_there (b ∷ bs) [] l go h s = h s
  bound_there (b ∷ bs) (v ∷ vs) l go h s =
      put_there p o b.1 b.0 0 v l s (λ s. bound o p bs vs l s go) (bound_there bs vs l go h)

  all_given : (vs : Values) (l : ℕ) (s : State) (go to : List Value → Outcome) → ((us : _) → go us ≡ O (to us))
      → given_all vs l (S s) go ≡ O (given_all vs l s to)
  all_given (have us) l s go to h = h us
  all_given (stops k) l s go to h = refl

  module _ (f : Function) (es : List Expr) (l n : ℕ) where
    -- after the result became undefined
    abbrev passes_on : State → Outcome
    passes_on s =
        given_all (values o p es s.memory) l s
        (λ vs. bound o p f.params vs l (without (frame_of f) s) (leaves on n))

    on_there : Goes p passes_on
    on_there s =
        ap (λ vs. given_all vs l (S s) (λ vs. bound o p f.params vs l (without (frame_of f) (S s)) (leaves on n)))
        (all_there o p es s.memory)
        ∙ all_given (values o p es s.memory) l s
        (λ vs. bound o p f.params vs l (without (frame_of f) (S s)) (leaves on n))
        (λ vs. bound o p f.params vs l (without (frame_of f) s) (leaves on n))
        (λ vs. ap (λ r. bound o p f.params vs l r (leaves on n)) (without_there p o (frame_of f) s)
        ∙ bound_there f.params vs l (leaves on n) (left_there n) (without (frame_of f) s))

    passes_there : Goes p (passes o p f es l n)
    passes_there s =
        ap passes_on (without_there p o (first_of (option_to_list f.result)) s)
        ∙ on_there (without (first_of (option_to_list f.result)) s)

  received_there : (r : Option (ℕ × Scalar)) (d : Option Dest) (l n : ℕ) → Goes p (received o p r d l n)
  received_there r None l n s = refl
  received_there None (Some d) l n s = refl
  received_there (Some r) (Some d) l n s =
      ap (λ f. given f l (S s) (λ v. put_dest o p (Some d) v l n (S s)))
      (loaded_there o p s.memory (model o p) r.1 r.0 0)
      ∙ given_there p (loaded o (model o p) (size_at o p r.0) s.memory r.1 r.0 0) l s
      (λ v. put_dest o p (Some d) v l n (S s)) (λ v. put_dest o p (Some d) v l n s)
      (λ v. dest_there p o (Some d) v l n s)

  -- ---- the end

  out_there : (f : Found) (l : ℕ) (s : State) → result_out f l (S s) ≡ result_out f l s
  out_there (has (int v)) l s = refl
  out_there (has null) l s = refl
  out_there (has (pointer b q)) l s = refl
  out_there (faults k) l s = refl

  ends_there : (r : Option (ℕ × Scalar)) (l : ℕ) (s : State) → main_ends o p r l (S s) ≡ main_ends o p r l s
  ends_there None l s = refl
  ends_there (Some r) l s =
      ap (λ f. result_out f l (S s)) (loaded_there o p s.memory (model o p) r.1 r.0 0)
      ∙ out_there (loaded o (model o p) (size_at o p r.0) s.memory r.1 r.0 0) l s

  pub is_restricted : IsRestricted o p
  is_restricted = record {
    values = values_there o p;
    statements = λ c r w l n s. does_there c r w l n s;
    arguments = λ f es l n s. passes_there f es l n s;
    results = received_there;
    ends = ends_there;
    blocks = killed_there o p;
  }
