-- Samples, computed.
use Rattle.std.proofs.Common.{◌≡◌, ◌==◌, ◌++◌, codes, length, filter, refl}
use Rattle.ep_sample.specs.Sample.{next_of, kind_of, shift_of, source_of}
use Rattle.ep_sample.specs.Sample.{field_text, turned_text, swapped_text, byte_text}

-- seeds after 7
seeds : (next_of 7 ≡ 1282168116) × (next_of 1282168116 ≡ 642666333)
    × (next_of 642666333 ≡ 712265938) × (next_of 712265938 ≡ 1486001571)
seeds = (refl, refl, refl, refl)

kinds : (kind_of 1282168116 ≡ 1) × (kind_of 642666333 ≡ 2)
    × (kind_of 712265938 ≡ 2) × (kind_of 1486001571 ≡ 0)
kinds = (refl, refl, refl, refl)

shifts : (shift_of 642666333 ≡ 0) × (shift_of 712265938 ≡ 16)
    × (shift_of 2131988640 ≡ 24) × (shift_of 220562521 ≡ 8)
shifts = (refl, refl, refl, refl)

fields : (field_text 1486001571 ≡ turned_text) × (field_text 1282168116 ≡ swapped_text)
    × (field_text 712265938 ≡ byte_text 16)
fields = (refl, refl, refl)

-- one field from 7
one_from_seven : source_of 7 1
    ≡ codes "#include <stdint.h>\n"
    ++ codes "#include \"ep.h\"\n"
    ++ codes "#if __BYTE_ORDER__ == __ORDER_LITTLE_ENDIAN__\n"
    ++ codes "uint16_t swap(uint16_t v) { return (uint16_t)((v >> 8) | (v << 8)); }\n"
    ++ codes "#else\n"
    ++ codes "uint16_t swap(uint16_t v) { return v; }\n"
    ++ codes "#endif\n"
    ++ codes "int main(void)\n"
    ++ codes "{\n"
    ++ codes "  uint32_t x, y;\n"
    ++ codes "  uint16_t h;\n"
    ++ codes "  uint8_t b[1];\n"
    ++ codes "  ep_read(&h, 2);\n"
    ++ codes "  h = swap(h);\n"
    ++ codes "  ep_out_u16(h);\n"
    ++ codes "  return 0;\n"
    ++ codes "}\n"
one_from_seven = refl

-- one field from 0
one_from_zero : source_of 0 1
    ≡ codes "#include <stdint.h>\n"
    ++ codes "#include \"ep.h\"\n"
    ++ codes "#if __BYTE_ORDER__ == __ORDER_LITTLE_ENDIAN__\n"
    ++ codes "uint16_t swap(uint16_t v) { return (uint16_t)((v >> 8) | (v << 8)); }\n"
    ++ codes "#else\n"
    ++ codes "uint16_t swap(uint16_t v) { return v; }\n"
    ++ codes "#endif\n"
    ++ codes "int main(void)\n"
    ++ codes "{\n"
    ++ codes "  uint32_t x, y;\n"
    ++ codes "  uint16_t h;\n"
    ++ codes "  uint8_t b[1];\n"
    ++ codes "  x = ep_in_u32();\n"
    ++ codes "  y = (x >> 8) | (x << 24);\n"
    ++ codes "  ep_out_u32(y);\n"
    ++ codes "  return 0;\n"
    ++ codes "}\n"
one_from_zero = refl

-- its lines
lines : (length (filter (λ b. b == 10) (source_of 7 1)) ≡ 17)
    × (length (filter (λ b. b == 10) (source_of 0 1)) ≡ 17)
lines = (refl, refl)
