-- A program that takes a packet apart and writes one, which means a well-formed one in both data models.
use Rattle.std.proofs.Common.{List, Some, [], false, refl, true, ◌∷◌, ◌≡◌}
use Rattle.std.specs.Prelude.{codes}
use Rattle.ep_int.specs.declared.types.Model.TheVariants.{Ilp32, Lp64}
use Rattle.ep_ast.specs.Declaration.{plain}
use Rattle.ep_ast.specs.Expression.{arrow, assign, binary, cast, id, index, post_increment, tagged, typedef_name, word}
use Rattle.ep_ast.specs.Mark as mark
use Rattle.ep_ast.specs.Statement.{Item, block, completes, defines, evaluate, evaluates, for_loop, functions_by_order}
use Rattle.ep_ast.specs.Statement.{if_then, states, to_parts}
use Rattle.ep_ast.specs.declared.orders.NamedOrder.TheVariants.{Little}
use Rattle.ep_elaboration.proofs.Opened.{is_sound}
use Rattle.ep_elaboration.proofs.Trees.{address_of, array, array_field, block_at, call_of, does_call, field, function}
use Rattle.ep_elaboration.proofs.Trees.{head, int_words, literal, local, member_of, no_params, number, params}
use Rattle.ep_elaboration.proofs.Trees.{returns, sets, struct_at, struct_of, struct_words, takes, takes_pointer}
use Rattle.ep_elaboration.proofs.Trees.{two_words, type_name, typedef_at, typedef_words, variable, variable_of}
use Rattle.ep_elaboration.proofs.Trees.{zero_at}

-- #include <stdint.h>
-- #include <string.h>
-- #include "ep.h"
-- #define FRAME 16
-- #define MAGIC 0x5a
-- struct packet {
--     uint8_t kind;
--     uint16_t station;
--     uint32_t stamp;
--     uint16_t level[3];
--     uint16_t sum;
-- };
-- #if __BYTE_ORDER__ == __ORDER_LITTLE_ENDIAN__
-- static uint32_t to_wire(uint32_t v)
-- {
--     return (v >> 24) | ((v >> 8) & 0xff00u) | ((v << 8) & 0xff0000u) | (v << 24);
-- }
-- #else
-- static uint32_t to_wire(uint32_t v)
-- {
--     return v;
-- }
-- #endif
-- static uint16_t get16(const uint8_t *p)
-- {
--     return (uint16_t)((p[0] << 8) | p[1]);
-- }
-- static uint32_t get32(const uint8_t *p)
-- {
--     return ((uint32_t)p[0] << 24) | ((uint32_t)p[1] << 16)
--          | ((uint32_t)p[2] << 8) | (uint32_t)p[3];
-- }
-- static void put16(uint8_t *p, uint16_t v)
-- {
--     p[0] = (uint8_t)(v >> 8);
--     p[1] = (uint8_t)v;
-- }
-- /* The sum of the bytes before the last two. */
-- static uint16_t checksum(const uint8_t *p)
-- {
--     uint32_t total = 0;
--     uint32_t i;
--     for (i = 0; i < FRAME - 2; i++)
--         total += p[i];
--     return (uint16_t)total;
-- }
-- static void decode(const uint8_t *f, struct packet *q)
-- {
--     uint32_t i;
--     q->kind = f[1];
--     q->station = get16(f + 2);
--     q->stamp = get32(f + 4);
--     for (i = 0; i < 3; i++)
--         q->level[i] = get16(f + 8 + 2 * i);
--     q->sum = get16(f + 14);
-- }
-- static void encode(const struct packet *q, uint8_t *f)
-- {
--     uint32_t i;
--     uint32_t w;
--     uint16_t s;
--     f[0] = MAGIC;
--     f[1] = q->kind;
--     put16(f + 2, q->station);
--     w = to_wire(q->stamp);
--     memcpy(f + 4, &w, 4);
--     for (i = 0; i < 3; i++)
--         put16(f + 8 + 2 * i, q->level[i]);
--     s = checksum(f);
--     put16(f + 14, s);
-- }
-- int main(void)
-- {
--     uint8_t frame[FRAME];
--     uint8_t reply[FRAME];
--     struct packet pkt;
--     uint16_t want;
--     uint16_t have;
--     uint32_t i;
--     ep_read(frame, FRAME);
--     want = checksum(frame);
--     have = get16(frame + 14);
--     if (frame[0] != MAGIC || have != want) {
--         ep_out_u8(0);
--         return 1;
--     }
--     decode(frame, &pkt);
--     for (i = 0; i < 3; i++)
--         pkt.level[i] = (uint16_t)(pkt.level[i] + 1);
--     encode(&pkt, reply);
--     ep_out_u16(pkt.station);
--     ep_write(reply, FRAME);
--     return 0;
-- }
abbrev packet : List Item
packet =
    completes
    (struct_of 6 (codes "packet")
    (field 7 (typedef_words 7 (codes "uint8_t")) (codes "kind") ∷
    field 8 (typedef_words 8 (codes "uint16_t")) (codes "station") ∷
    field 9 (typedef_words 9 (codes "uint32_t")) (codes "stamp") ∷
    array_field 10 (typedef_words 10 (codes "uint16_t")) (codes "level") (number 10 3) ∷
    field 11 (typedef_words 11 (codes "uint16_t")) (codes "sum") ∷ [])) ∷
    functions_by_order 13 Little
    (function
    (head 14 (plain (word 14 mark.static_word) ∷ plain (typedef_name 14 (codes "uint32_t")) ∷ []) [] (codes "to_wire")
    (params 14 (takes 14 (typedef_at 14 (codes "uint32_t")) (codes "v") ∷ [])))
    (block_at 15
    (returns 16
    (binary 16 mark.bar
    (binary 16 mark.bar
    (binary 16 mark.bar (binary 16 mark.right_shift (id 16 (codes "v")) (number 16 24))
    (binary 16 mark.ampersand (binary 16 mark.right_shift (id 16 (codes "v")) (number 16 8))
    (literal 16 65280 false true 0)))
    (binary 16 mark.ampersand (binary 16 mark.left_shift (id 16 (codes "v")) (number 16 8))
    (literal 16 16711680 false true 0)))
    (binary 16 mark.left_shift (id 16 (codes "v")) (number 16 24))) ∷ [])) ∷ [])
    (Some
    (function
    (head 19 (plain (word 19 mark.static_word) ∷ plain (typedef_name 19 (codes "uint32_t")) ∷ []) [] (codes "to_wire")
    (params 19 (takes 19 (typedef_at 19 (codes "uint32_t")) (codes "v") ∷ [])))
    (block_at 20 (returns 21 (id 21 (codes "v")) ∷ [])) ∷ [])) ∷
    defines
    (function
    (head 24 (plain (word 24 mark.static_word) ∷ plain (typedef_name 24 (codes "uint16_t")) ∷ []) [] (codes "get16")
    (params 24 (takes_pointer 24 (word 24 mark.const_word ∷ typedef_name 24 (codes "uint8_t") ∷ []) (codes "p") ∷ [])))
    (block_at 25
    (returns 26
    (cast 26 (type_name 26 (typedef_at 26 (codes "uint16_t")) [])
    (binary 26 mark.bar (binary 26 mark.left_shift (index 26 (id 26 (codes "p")) (zero_at 26)) (number 26 8))
    (index 26 (id 26 (codes "p")) (number 26 1)))) ∷ []))) ∷
    defines
    (function
    (head 28 (plain (word 28 mark.static_word) ∷ plain (typedef_name 28 (codes "uint32_t")) ∷ []) [] (codes "get32")
    (params 28 (takes_pointer 28 (word 28 mark.const_word ∷ typedef_name 28 (codes "uint8_t") ∷ []) (codes "p") ∷ [])))
    (block_at 29
    (returns 30
    (binary 30 mark.bar
    (binary 30 mark.bar
    (binary 30 mark.bar
    (binary 30 mark.left_shift
    (cast 30 (type_name 30 (typedef_at 30 (codes "uint32_t")) []) (index 30 (id 30 (codes "p")) (zero_at 30)))
    (number 30 24))
    (binary 30 mark.left_shift
    (cast 30 (type_name 30 (typedef_at 30 (codes "uint32_t")) []) (index 30 (id 30 (codes "p")) (number 30 1)))
    (number 30 16)))
    (binary 31 mark.left_shift
    (cast 31 (type_name 31 (typedef_at 31 (codes "uint32_t")) []) (index 31 (id 31 (codes "p")) (number 31 2)))
    (number 31 8)))
    (cast 31 (type_name 31 (typedef_at 31 (codes "uint32_t")) [])
    (index 31 (id 31 (codes "p")) (number 31 3)))) ∷ []))) ∷
    defines
    (function
    (head 33 (two_words 33 mark.static_word mark.void_word) [] (codes "put16")
    (params 33
    (takes_pointer 33 (typedef_at 33 (codes "uint8_t")) (codes "p") ∷
    takes 33 (typedef_at 33 (codes "uint16_t")) (codes "v") ∷ [])))
    (block_at 34
    (sets 35 (index 35 (id 35 (codes "p")) (zero_at 35))
    (cast 35 (type_name 35 (typedef_at 35 (codes "uint8_t")) [])
    (binary 35 mark.right_shift (id 35 (codes "v")) (number 35 8))) ∷
    sets 36 (index 36 (id 36 (codes "p")) (number 36 1))
    (cast 36 (type_name 36 (typedef_at 36 (codes "uint8_t")) []) (id 36 (codes "v"))) ∷ []))) ∷
    defines
    (function
    (head 39 (plain (word 39 mark.static_word) ∷ plain (typedef_name 39 (codes "uint16_t")) ∷ []) [] (codes "checksum")
    (params 39 (takes_pointer 39 (word 39 mark.const_word ∷ typedef_name 39 (codes "uint8_t") ∷ []) (codes "p") ∷ [])))
    (block_at 40
    (local 41 (typedef_words 41 (codes "uint32_t")) (variable_of 41 (codes "total") (zero_at 41)) ∷
    local 42 (typedef_words 42 (codes "uint32_t")) (variable 42 (codes "i")) ∷
    states
    (for_loop 43 (evaluates (Some (assign 43 mark.equal (id 43 (codes "i")) (zero_at 43))))
    (Some (binary 43 mark.less (id 43 (codes "i")) (binary 43 mark.minus (number 43 16) (number 43 2))))
    (Some (post_increment 43 (id 43 (codes "i"))))
    (evaluate 44
    (Some (assign 44 mark.plus_equal (id 44 (codes "total")) (index 44 (id 44 (codes "p")) (id 44 (codes "i"))))))) ∷
    returns 45 (cast 45 (type_name 45 (typedef_at 45 (codes "uint16_t")) []) (id 45 (codes "total"))) ∷ []))) ∷
    defines
    (function
    (head 47 (two_words 47 mark.static_word mark.void_word) [] (codes "decode")
    (params 47
    (takes_pointer 47 (word 47 mark.const_word ∷ typedef_name 47 (codes "uint8_t") ∷ []) (codes "f") ∷
    takes_pointer 47 (struct_at 47 (codes "packet")) (codes "q") ∷ [])))
    (block_at 48
    (local 49 (typedef_words 49 (codes "uint32_t")) (variable 49 (codes "i")) ∷
    sets 50 (arrow 50 (id 50 (codes "q")) (codes "kind")) (index 50 (id 50 (codes "f")) (number 50 1)) ∷
    sets 51 (arrow 51 (id 51 (codes "q")) (codes "station"))
    (call_of 51 (codes "get16") (binary 51 mark.plus (id 51 (codes "f")) (number 51 2) ∷ [])) ∷
    sets 52 (arrow 52 (id 52 (codes "q")) (codes "stamp"))
    (call_of 52 (codes "get32") (binary 52 mark.plus (id 52 (codes "f")) (number 52 4) ∷ [])) ∷
    states
    (for_loop 53 (evaluates (Some (assign 53 mark.equal (id 53 (codes "i")) (zero_at 53))))
    (Some (binary 53 mark.less (id 53 (codes "i")) (number 53 3))) (Some (post_increment 53 (id 53 (codes "i"))))
    (evaluate 54
    (Some
    (assign 54 mark.equal (index 54 (arrow 54 (id 54 (codes "q")) (codes "level")) (id 54 (codes "i")))
    (call_of 54 (codes "get16")
    (binary 54 mark.plus (binary 54 mark.plus (id 54 (codes "f")) (number 54 8))
    (binary 54 mark.star (number 54 2) (id 54 (codes "i"))) ∷ [])))))) ∷
    sets 55 (arrow 55 (id 55 (codes "q")) (codes "sum"))
    (call_of 55 (codes "get16") (binary 55 mark.plus (id 55 (codes "f")) (number 55 14) ∷ [])) ∷ []))) ∷
    defines
    (function
    (head 57 (two_words 57 mark.static_word mark.void_word) [] (codes "encode")
    (params 57
    (takes_pointer 57 (word 57 mark.const_word ∷ tagged 57 mark.struct_word (codes "packet") ∷ []) (codes "q") ∷
    takes_pointer 57 (typedef_at 57 (codes "uint8_t")) (codes "f") ∷ [])))
    (block_at 58
    (local 59 (typedef_words 59 (codes "uint32_t")) (variable 59 (codes "i")) ∷
    local 60 (typedef_words 60 (codes "uint32_t")) (variable 60 (codes "w")) ∷
    local 61 (typedef_words 61 (codes "uint16_t")) (variable 61 (codes "s")) ∷
    sets 62 (index 62 (id 62 (codes "f")) (zero_at 62)) (literal 62 90 false false 0) ∷
    sets 63 (index 63 (id 63 (codes "f")) (number 63 1)) (arrow 63 (id 63 (codes "q")) (codes "kind")) ∷
    does_call 64 (codes "put16")
    (binary 64 mark.plus (id 64 (codes "f")) (number 64 2) ∷ arrow 64 (id 64 (codes "q")) (codes "station") ∷ []) ∷
    sets 65 (id 65 (codes "w")) (call_of 65 (codes "to_wire") (arrow 65 (id 65 (codes "q")) (codes "stamp") ∷ [])) ∷
    does_call 66 (codes "memcpy")
    (binary 66 mark.plus (id 66 (codes "f")) (number 66 4) ∷ address_of 66 (codes "w") ∷ number 66 4 ∷ []) ∷
    states
    (for_loop 67 (evaluates (Some (assign 67 mark.equal (id 67 (codes "i")) (zero_at 67))))
    (Some (binary 67 mark.less (id 67 (codes "i")) (number 67 3))) (Some (post_increment 67 (id 67 (codes "i"))))
    (evaluate 68
    (Some
    (call_of 68 (codes "put16")
    (binary 68 mark.plus (binary 68 mark.plus (id 68 (codes "f")) (number 68 8))
    (binary 68 mark.star (number 68 2) (id 68 (codes "i"))) ∷
    index 68 (arrow 68 (id 68 (codes "q")) (codes "level")) (id 68 (codes "i")) ∷ []))))) ∷
    sets 69 (id 69 (codes "s")) (call_of 69 (codes "checksum") (id 69 (codes "f") ∷ [])) ∷
    does_call 70 (codes "put16")
    (binary 70 mark.plus (id 70 (codes "f")) (number 70 14) ∷ id 70 (codes "s") ∷ []) ∷ []))) ∷
    defines
    (function (head 72 (int_words 72) [] (codes "main") (no_params 72))
    (block_at 73
    (local 74 (typedef_words 74 (codes "uint8_t")) (array 74 (codes "frame") (number 74 16)) ∷
    local 75 (typedef_words 75 (codes "uint8_t")) (array 75 (codes "reply") (number 75 16)) ∷
    local 76 (struct_words 76 (codes "packet")) (variable 76 (codes "pkt")) ∷
    local 77 (typedef_words 77 (codes "uint16_t")) (variable 77 (codes "want")) ∷
    local 78 (typedef_words 78 (codes "uint16_t")) (variable 78 (codes "have")) ∷
    local 79 (typedef_words 79 (codes "uint32_t")) (variable 79 (codes "i")) ∷
    does_call 80 (codes "ep_read") (id 80 (codes "frame") ∷ number 80 16 ∷ []) ∷
    sets 81 (id 81 (codes "want")) (call_of 81 (codes "checksum") (id 81 (codes "frame") ∷ [])) ∷
    sets 82 (id 82 (codes "have"))
    (call_of 82 (codes "get16") (binary 82 mark.plus (id 82 (codes "frame")) (number 82 14) ∷ [])) ∷
    states
    (if_then 83
    (binary 83 mark.bar_bar
    (binary 83 mark.not_equal (index 83 (id 83 (codes "frame")) (zero_at 83)) (literal 83 90 false false 0))
    (binary 83 mark.not_equal (id 83 (codes "have")) (id 83 (codes "want"))))
    (block 83 (to_parts (does_call 84 (codes "ep_out_u8") (zero_at 84 ∷ []) ∷ returns 85 (number 85 1) ∷ [])))) ∷
    does_call 87 (codes "decode") (id 87 (codes "frame") ∷ address_of 87 (codes "pkt") ∷ []) ∷
    states
    (for_loop 88 (evaluates (Some (assign 88 mark.equal (id 88 (codes "i")) (zero_at 88))))
    (Some (binary 88 mark.less (id 88 (codes "i")) (number 88 3))) (Some (post_increment 88 (id 88 (codes "i"))))
    (evaluate 89
    (Some
    (assign 89 mark.equal (index 89 (member_of 89 (id 89 (codes "pkt")) (codes "level")) (id 89 (codes "i")))
    (cast 89 (type_name 89 (typedef_at 89 (codes "uint16_t")) [])
    (binary 89 mark.plus (index 89 (member_of 89 (id 89 (codes "pkt")) (codes "level")) (id 89 (codes "i")))
    (number 89 1))))))) ∷
    does_call 90 (codes "encode") (address_of 90 (codes "pkt") ∷ id 90 (codes "reply") ∷ []) ∷
    does_call 91 (codes "ep_out_u16") (member_of 91 (id 91 (codes "pkt")) (codes "station") ∷ []) ∷
    does_call 92 (codes "ep_write") (id 92 (codes "reply") ∷ number 92 16 ∷ []) ∷
    returns 93 (zero_at 93) ∷ []))) ∷ []

sound_packet : (is_sound Ilp32 packet ≡ true) × (is_sound Lp64 packet ≡ true)
unfolding is_sound
sound_packet = (refl, refl)
