-- The text of the layouts of a table. This project's rule.
use Rattle.std.specs.Prelude.{ℕ, Bool, List, [], ◌∷◌, ◌++◌, Option, Some, unwrap_or, slice_get, flat_map, codes}
use Rattle.std.specs.Prelude.{decimal, if◌then◌else◌}
use Rattle.ep_layout.specs.Layout.{Layout}
use Rattle.ep_layout.specs.Table.{Table, AggregateRow, MemberRow, aggregate_layout, size}

-- the tag, or `-` without one
abbrev pub tag_text : List ℕ → List ℕ
tag_text [] = codes "-"
tag_text (b ∷ bs) = b ∷ bs

-- two spaces, `NAME offset O size S`, and a newline
abbrev pub member_line : List ℕ → ℕ → ℕ → List ℕ
member_line name offset size =
    codes "  " ++ name ++ codes " offset " ++ decimal offset ++ codes " size " ++ decimal size ++ codes "\n"

abbrev pub member_text : Table → MemberRow → List ℕ
member_text t m = member_line m.name m.offset (unwrap_or (size t m.ty) 0)

-- `struct NAME size S align A` or `union ..`, and a newline
abbrev pub head_line : List ℕ → Bool → ℕ → ℕ → List ℕ
head_line tag is_union size align =
    (if is_union then codes "union " else codes "struct ")
    ++ tag_text tag ++ codes " size " ++ decimal size ++ codes " align " ++ decimal align ++ codes "\n"

-- a line for each member
abbrev pub members_text : Table → List MemberRow → List ℕ
members_text t ms = flat_map (member_text t) ms

abbrev pub text_with : Table → Option AggregateRow → Option Layout → List ℕ
text_with t (Some g) (Some l) = head_line g.tag g.is_union l.size l.align ++ members_text t (unwrap_or g.members [])
text_with t g l = []

-- the line of an aggregate, and one for each of its members; nothing until it is completed
abbrev pub aggregate_text : Table → ℕ → List ℕ
aggregate_text t a = text_with t (slice_get t.aggregates a) (aggregate_layout t a)

-- the completed aggregates in the order of their completion
abbrev pub layout_text_of : Table → List ℕ
layout_text_of t = flat_map (aggregate_text t) t.completed
