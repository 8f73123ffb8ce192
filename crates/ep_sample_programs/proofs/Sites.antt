-- What the statements of a sample call.
use Rattle.std.proofs.Common.{◌≡◌, ℕ, zero, suc, ◌+◌, Bool, true, false, List, [], ◌∷◌, ◌++◌}
use Rattle.std.proofs.Common.{refl, ap, ◌∙◌, sym, subst, arith, map, append_assoc}
use Rattle.std.specs.Prelude.{◌==◌, if◌then◌else◌}
use mathlib.Core.List.{map-append}
use Rattle.ep_ast.specs.Statement.{Part, to_parts, Item}
use Rattle.ep_layout.specs.Table.{at_depth}
use Rattle.ep_typing.specs.Env.{Signature}
use Rattle.ep_elaboration.specs.Calls.{CallSite, Stand, stands_in_parts, stands_in_part, in_items}
use Rattle.ep_elaboration.specs.Programs.{call_site_of}
use Rattle.ep_elaboration.proofs.Opened.{program}
use Rattle.ep_sample.specs.Sample.{next_of, kind_of, shift_of}
use Rattle.ep_sample_trees.specs.Names.{main}
use Rattle.ep_sample_trees.specs.Tree.{tree_of, swaps, turned_parts, swapped_parts, byte_parts, field_parts, fields_parts}
use Rattle.ep_sample_programs.proofs.Bodies.{with_objects}
use Rattle.ep_sample_programs.proofs.Checks.{AreSites, none, in_first, in_second, calls_first}

abbrev functions : List Signature
functions = with_objects.functions

abbrev placed : Stand → CallSite
placed s = call_site_of functions (main, s)

abbrev sites_in : List Part → List CallSite
sites_in ps = map placed (stands_in_parts 0 (to_parts ps))

both : (ps qs : List Part) → sites_in (ps ++ qs) ≡ sites_in ps ++ sites_in qs
both [] qs = refl
both (p ∷ ps) qs =
    map-append placed (stands_in_part 0 p) (stands_in_parts 0 (to_parts (ps ++ qs)))
    ∙ ap (λ zs. map placed (stands_in_part 0 p) ++ zs) (both ps qs)
    ∙ sym (append_assoc (map placed (stands_in_part 0 p)) (sites_in ps) (sites_in qs))
    ∙ ap (λ zs. zs ++ sites_in qs) (sym (map-append placed (stands_in_part 0 p) (stands_in_parts 0 (to_parts ps))))

-- ---- fields

abbrev Adds : List Part → Type 0
Adds ps = (qs : List CallSite) → AreSites qs → AreSites (sites_in ps ++ qs)

turned : (l : ℕ) → Adds (turned_parts l)
unfolding program at_depth with_objects
turned l qs s =
    in_second refl (omega arith) refl (in_second refl (omega arith) refl (in_second refl (omega arith) refl s))

swapped : (l : ℕ) → Adds (swapped_parts l)
unfolding program at_depth with_objects
swapped l qs s =
    in_second refl (omega arith) refl (calls_first refl (omega arith) refl (in_second refl (omega arith) refl s))

by_bytes : (l n : ℕ) → Adds (byte_parts l n)
unfolding program at_depth with_objects
by_bytes l n qs s =
    in_second refl (omega arith) refl (in_second refl (omega arith) refl (in_second refl (omega arith) refl s))

of_kind : (a b : Bool) (t w c : List Part) → Adds t → Adds w → Adds c → Adds (if a then t else if b then w else c)
of_kind true b t w c p q r = p
of_kind false true t w c p q r = q
of_kind false false t w c p q r = r

field : (s l : ℕ) → Adds (field_parts s l)
field s l =
    of_kind (kind_of s == 0) (kind_of s == 1) (turned_parts l) (swapped_parts l) (byte_parts l (shift_of s))
    (turned l) (swapped l) (by_bytes l (shift_of s))

end : (l : ℕ) → AreSites (sites_in (fields_parts 0 l zero))
unfolding program at_depth with_objects
end l = in_second refl (omega arith) refl none

fields : (s l n : ℕ) → AreSites (sites_in (fields_parts s l n))
fields s l zero = end l
fields s l (suc n) =
    subst AreSites (sym (both (field_parts (next_of s) l) (fields_parts (next_of s) (l + 1 + 1 + 1) n)))
    (field (next_of s) l (sites_in (fields_parts (next_of s) (l + 1 + 1 + 1) n))
    (fields (next_of s) (l + 1 + 1 + 1) n))

-- ---- the whole text

abbrev pub sites_of : List Item → List CallSite
sites_of is = map (call_site_of functions) (in_items is)

front : (qs : List CallSite) → AreSites qs
    → AreSites (map (call_site_of functions) (in_items (swaps ∷ [])) ++ qs)
unfolding program at_depth with_objects
front qs s = in_first refl (omega arith) refl (in_first refl (omega arith) refl (in_first refl (omega arith) refl s))

put : (zs : List Stand) → map (call_site_of functions) (map (λ (s : Stand). (main, s)) zs ++ []) ≡ map placed zs
put [] = refl
put (z ∷ zs) = ap (λ (r : List CallSite). placed z ∷ r) (put zs)

pub sites : (start n : ℕ) → AreSites (sites_of (tree_of start n))
sites start n =
    let zs = stands_in_parts 0 (to_parts (fields_parts start 13 n)) in
    front (map (call_site_of functions) (map (λ (s : Stand). (main, s)) zs ++ []))
    (subst AreSites (sym (put zs)) (fields start 13 n))
