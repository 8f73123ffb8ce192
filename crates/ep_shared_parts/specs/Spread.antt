-- A list kept in parts: the numbers of its items rise from part to part.
use Rattle.std.specs.Prelude.{◌≡◌, ℕ, suc, ◌<◌, ◌≤◌, nat_le, if◌then◌else◌, List, [], ◌∷◌, ◌++◌, map, length, set}
use Rattle.ep_shared_parts.specs.declared.parts.Part.{Part}
use Rattle.ep_shared_parts.specs.declared.parts.Edit.{Edit}

-- where a part starts, and the numbers of its items
pub record Outline : Type 0 where
  pub start : ℕ
  pub numbers : List ℕ

abbrev pub outline : {X : Type 0} → (X → ℕ) → Part X → Outline
outline number p = record { start = p.start; numbers = map number p.items.value.items }

abbrev pub outlines : {X : Type 0} → (X → ℕ) → List (Part X) → List Outline
outlines number [] = []
outlines number (p ∷ ps) = outline number p ∷ outlines number ps

-- the items of all parts, one after another
abbrev pub all_items : {X : Type 0} → List (Part X) → List X
all_items [] = []
all_items (p ∷ ps) = p.items.value.items ++ all_items ps

abbrev pub AreFrom : ℕ → List ℕ → Type 0
AreFrom k [] = Unit {0}
AreFrom k (n ∷ ns) = (k ≤ n) × AreFrom k ns

abbrev pub AreBelow : ℕ → List ℕ → Type 0
AreBelow k [] = Unit {0}
AreBelow k (n ∷ ns) = (n < k) × AreBelow k ns

-- a part ends before the next one starts
abbrev pub EndsBefore : Outline → List Outline → Type 0
EndsBefore p [] = Unit {0}
EndsBefore p (q ∷ qs) = (p.start ≤ q.start) × AreBelow q.start p.numbers

abbrev pub AreSpread : List Outline → Type 0
AreSpread [] = Unit {0}
AreSpread (p ∷ ps) = AreFrom p.start p.numbers × EndsBefore p ps × AreSpread ps

-- how many parts start at this number or before
abbrev pub parts_to : ℕ → List Outline → ℕ
parts_to k [] = 0
parts_to k (p ∷ ps) = if nat_le p.start k then suc (parts_to k ps) else 0

-- the parts that may have items with numbers from `from` to `last`
pub record IsWindow {X : Type 0} (number : X → ℕ) (from last : ℕ) (parts window : List (Part X)) : Type 0 where
  pub before : List (Part X)
  pub behind : List (Part X)
  pub whole : parts ≡ before ++ (window ++ behind)
  pub below : AreBelow from (map number (all_items before))
  pub above : AreFrom (suc last) (map number (all_items behind))

-- a part as two, of which the second starts at the number of one of its items
pub record IsHalved {X : Type 0} (number : X → ℕ) (p left right : Part X) : Type 0 where
  pub start : left.start ≡ p.start
  pub items : left.items.value.items ++ right.items.value.items ≡ p.items.value.items
  pub rises : p.start ≤ right.start
  pub some : 0 < length right.items.value.items
  pub below : AreBelow right.start (map number left.items.value.items)
  pub above : AreFrom right.start (map number right.items.value.items)

-- each part in its place
abbrev pub installed : {X : Type 0} → List (Edit X) → List (Part X) → List (Part X)
installed [] ps = ps
installed (e ∷ es) ps = installed es (set ps e.at e.part)

abbrev pub AreWithin : {X : Type 0} → ℕ → List (Edit X) → Type 0
AreWithin n [] = Unit {0}
AreWithin n (e ∷ es) = (e.at < n) × AreWithin n es
