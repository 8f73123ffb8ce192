-- The sources that are generated as samples. This project's rules.
use Rattle.std.specs.Prelude.{ℕ, zero, suc, ◌+◌, ◌*◌, ◌/◌, ◌%◌, ◌==◌, if◌then◌else◌, List, [], ◌++◌, codes, decimal}

-- the seed of the next field
abbrev pub next_of : ℕ → ℕ
next_of s = (s * 1103515245 + 12345) % 2147483648

-- which of three kinds a field is, by its seed
abbrev pub kind_of : ℕ → ℕ
kind_of s = s / 65536 % 3

-- by how many bits the third kind shifts: 0, 8, 16 or 24
abbrev pub shift_of : ℕ → ℕ
shift_of s = 8 * (s / 196608 % 4)

abbrev pub head_text : List ℕ
head_text =
    codes "#include <stdint.h>\n"
    ++ codes "#include \"ep.h\"\n"
    ++ codes "#if __BYTE_ORDER__ == __ORDER_LITTLE_ENDIAN__\n"
    ++ codes "uint16_t swap(uint16_t v) { return (uint16_t)((v >> 8) | (v << 8)); }\n"
    ++ codes "#else\n"
    ++ codes "uint16_t swap(uint16_t v) { return v; }\n"
    ++ codes "#endif\n"
    ++ codes "int main(void)\n"
    ++ codes "{\n"
    ++ codes "  uint32_t x, y;\n"
    ++ codes "  uint16_t h;\n"
    ++ codes "  uint8_t b[1];\n"

-- a number whose bytes are turned by one place
abbrev pub turned_text : List ℕ
turned_text =
    codes "  x = ep_in_u32();\n"
    ++ codes "  y = (x >> 8) | (x << 24);\n"
    ++ codes "  ep_out_u32(y);\n"

-- two bytes as they come, their order mended
abbrev pub swapped_text : List ℕ
swapped_text =
    codes "  ep_read(&h, 2);\n"
    ++ codes "  h = swap(h);\n"
    ++ codes "  ep_out_u16(h);\n"

-- one byte of a number
abbrev pub byte_text : ℕ → List ℕ
byte_text shift =
    codes "  x = ep_in_u32();\n  b[0] = (uint8_t)(x >> " ++ decimal shift ++ codes ");\n  ep_write(b, 1);\n"

-- three lines
abbrev pub field_text : (seed : ℕ) → List ℕ
field_text s =
    if kind_of s == 0 then turned_text
    else if kind_of s == 1 then swapped_text
    else byte_text (shift_of s)

-- so many fields, each by the seed that follows the one before
abbrev pub fields_text : (seed : ℕ) (fields : ℕ) → List ℕ
fields_text s zero = []
fields_text s (suc n) = field_text (next_of s) ++ fields_text (next_of s) n

abbrev pub end_text : List ℕ
end_text = codes "  return 0;\n" ++ codes "}\n"

-- the source that a number to start with and a number of fields stand for
abbrev pub source_of : (start fields : ℕ) → List ℕ
source_of start fields = head_text ++ fields_text start fields ++ end_text
