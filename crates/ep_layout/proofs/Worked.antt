-- The definitions on worked values.
use Rattle.std.proofs.Common.{◌≡◌, ℕ, true, false, List, [], ◌∷◌, ◌++◌, map, Some, None, refl, codes, decimal, flat_map}
use Rattle.ep_int.specs.declared.types.IntType.TheVariants.{U8, U16, U32, I64}
use Rattle.ep_int.specs.declared.types.Model.{Model}
use Rattle.ep_int.specs.declared.types.Model.TheVariants.{Ilp32, Lp64}
use Rattle.ep_int.specs.declared.types.Scalar.TheVariants.{Int as Number, Pointer}
use Rattle.ep_layout.specs.declared.types.Ty.TheVariants.{Int, Ptr, Array, Aggregate}
use Rattle.ep_layout.specs.declared.types.LayoutStop.TheVariants.{Incomplete, TooLarge}
use Rattle.ep_layout.specs.Table.{Table, at_depth, size, align, leaves, empty, type_added, declared, completed_with}
use Rattle.ep_layout.specs.Table.{members_stop, type_stop, members_of, MemberRow, number_of}
use Rattle.ep_layout.specs.Text.{layout_text_of}

-- `struct packet { uint8_t kind; uint16_t station; uint32_t stamp; uint16_t level[3]; uint16_t sum; };`
packet : Model → Table
packet m =
    let types = type_added (type_added (type_added (type_added (type_added (empty m) (Int U8)) (Int U16)) (Int U32)) (Array 1 3)) (Int U16) in
    completed_with (type_added (declared types (codes "packet") false) (Aggregate 0)) 0 ((codes "kind", 0) ∷ (codes "station", 1) ∷ (codes "stamp", 2) ∷ (codes "level", 3) ∷ (codes "sum", 1) ∷ [])

member_line : List ℕ → ℕ → ℕ → List ℕ
member_line name offset size = codes "  " ++ name ++ codes " offset " ++ decimal offset ++ codes " size " ++ decimal size ++ codes "\n"

packet_text : layout_text_of (packet Ilp32) ≡ flat_map (λ line. line)
    (((codes "struct packet size " ++ decimal 16 ++ codes " align " ++ decimal 4 ++ codes "\n")
    ++ flat_map (λ line. line) (member_line (codes "kind") 0 1 ∷ member_line (codes "station") 2 2 ∷ member_line (codes "stamp") 4 4 ∷ member_line (codes "level") 8 6 ∷ member_line (codes "sum") 14 2 ∷ [])) ∷ [])
unfolding packet at_depth member_line
packet_text = refl

packet_size : (size (packet Ilp32) 4 ≡ Some 16) × (align (packet Ilp32) 4 ≡ Some 4) × (size (packet Lp64) 3 ≡ Some 6) × (size (packet Lp64) 4 ≡ Some 16)
unfolding packet at_depth
packet_size = (refl, refl, refl, refl)

packet_leaves : leaves (packet Lp64) 4 ≡ (record { offset = 0; what = Number U8 }) ∷ (record { offset = 2; what = Number U16 }) ∷ (record { offset = 4; what = Number U32 }) ∷ (record { offset = 8; what = Number U16 }) ∷ (record { offset = 10; what = Number U16 }) ∷ (record { offset = 12; what = Number U16 }) ∷ (record { offset = 14; what = Number U16 }) ∷ []
unfolding packet at_depth
packet_leaves = refl

-- `struct item { uint8_t tag; uint32_t *p; };`, type 3
item : Model → Table
item m =
    let types = type_added (type_added (type_added (empty m) (Int U8)) (Int U32)) (Ptr 1) in
    completed_with (type_added (declared types (codes "item") false) (Aggregate 0)) 0 ((codes "tag", 0) ∷ (codes "p", 2) ∷ [])

item_sizes : (size (item Ilp32) 3 ≡ Some 8) × (align (item Ilp32) 3 ≡ Some 4) × (size (item Lp64) 3 ≡ Some 16) × (align (item Lp64) 3 ≡ Some 8)
unfolding item at_depth
item_sizes = (refl, refl, refl, refl)

item_offsets : (map (λ (m : MemberRow). m.offset) (members_of (item Ilp32) 0) ≡ 0 ∷ 4 ∷ []) × (map (λ (m : MemberRow). m.offset) (members_of (item Lp64) 0) ≡ 0 ∷ 8 ∷ [])
unfolding item at_depth
item_offsets = (refl, refl)

-- `struct outer { struct item first; struct item rest[2]; uint8_t end; };`, types 4 and 5
outer : Model → Table
outer m =
    let types = type_added (type_added (declared (type_added (item m) (Array 3 2)) (codes "outer") false) (Aggregate 1)) (Int U8) in
    completed_with types 1 ((codes "first", 3) ∷ (codes "rest", 4) ∷ (codes "end", 0) ∷ [])

outer_sizes : (size (outer Ilp32) 4 ≡ Some 16) × (size (outer Ilp32) 5 ≡ Some 28) × (size (outer Lp64) 5 ≡ Some 56) × (align (outer Lp64) 5 ≡ Some 8)
unfolding outer item at_depth
outer_sizes = (refl, refl, refl, refl)

outer_leaves : leaves (outer Ilp32) 5 ≡ (record { offset = 0; what = Number U8 }) ∷ (record { offset = 4; what = Pointer }) ∷ (record { offset = 8; what = Number U8 }) ∷ (record { offset = 12; what = Pointer }) ∷ (record { offset = 16; what = Number U8 }) ∷ (record { offset = 20; what = Pointer }) ∷ (record { offset = 24; what = Number U8 }) ∷ []
unfolding outer item at_depth
outer_leaves = refl

-- `union value { uint16_t half; uint8_t b[5]; uint32_t word; };`, type 4: its leaves are those of its first member
value : Table
value =
    let types = type_added (type_added (type_added (type_added (empty Ilp32) (Int U16)) (Int U8)) (Array 1 5)) (Int U32) in
    completed_with (type_added (declared types (codes "value") true) (Aggregate 0)) 0 ((codes "half", 0) ∷ (codes "b", 2) ∷ (codes "word", 3) ∷ [])

value_size : (size value 4 ≡ Some 8) × (align value 4 ≡ Some 4) × (leaves value 4 ≡ (record { offset = 0; what = Number U16 }) ∷ [])
unfolding value at_depth
value_size = (refl, refl, refl)

-- `struct node { struct node *next; int64_t v; };`: a pointer to what is completed later, types 0 to 2
before_node : Table
before_node = type_added (type_added (type_added (declared (empty Ilp32) (codes "node") false) (Aggregate 0)) (Ptr 0)) (Int I64)

node : Table
node = completed_with before_node 0 ((codes "next", 1) ∷ (codes "v", 2) ∷ [])

node_size : (size before_node 0 ≡ None) × (size before_node 1 ≡ Some 4) × (type_stop before_node (Array 0 2) ≡ Some Incomplete) × (members_stop before_node false ((codes "n", 0) ∷ []) ≡ Some Incomplete) × (size node 0 ≡ Some 16) × (number_of node (Ptr 0) ≡ Some 1)
unfolding node before_node at_depth
node_size = (refl, refl, refl, refl, refl, refl)

-- 65,536 bytes are a size, and 65,537 aren't
bytes : Table
bytes = type_added (type_added (empty Ilp32) (Int U8)) (Array 0 65535)

sizes_at_the_limit : (type_stop bytes (Array 0 65536) ≡ None) × (type_stop bytes (Array 0 65537) ≡ Some TooLarge) × (members_stop bytes false ((codes "a", 1) ∷ (codes "b", 0) ∷ []) ≡ None) × (members_stop bytes false ((codes "a", 1) ∷ (codes "b", 0) ∷ (codes "c", 0) ∷ []) ≡ Some TooLarge) × (members_stop bytes true ((codes "a", 1) ∷ (codes "b", 0) ∷ (codes "c", 0) ∷ []) ≡ None)
unfolding bytes at_depth
sizes_at_the_limit = (refl, refl, refl, refl, refl)
