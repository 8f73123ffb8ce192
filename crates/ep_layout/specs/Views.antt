-- What a table keeps, as plain data.
use Rattle.std.specs.Prelude.{ℕ, List, map}
use Rattle.std.specs.Global.{Vec}
use Rattle.ep_layout.specs.declared.types.Member.{Member}
use Rattle.ep_layout.specs.Table.{MemberRow}

abbrev pub member_view : Member → MemberRow
member_view m = record { name = m.name.items; ty = m.ty; offset = m.offset }

abbrev pub members_view : List Member → List MemberRow
members_view members = map member_view members

-- the names and types of members that are to be laid out
abbrev pub named_view : List (Vec ℕ × ℕ) → List (List ℕ × ℕ)
named_view members = map (λ m. (m.0.items, m.1)) members
