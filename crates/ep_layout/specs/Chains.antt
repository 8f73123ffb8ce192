-- What the code keeps beside a list of types: chains of rows, each the pointer to the one before, and where each row
-- stands in its chain.
use Rattle.std.specs.Prelude.{◌≡◌, ℕ, suc, ◌<◌, ◌≤◌, List, [], ◌∷◌, ◌++◌, length, map, slice_get, slice_set}
use Rattle.std.specs.Prelude.{Option, Some, None}
use Rattle.std.specs.Global.{Vec}
use Rattle.ep_layout.specs.declared.list.ChainPlace.{ChainPlace}
use Rattle.ep_layout.specs.declared.list.TypeList.TheInside.{Inside}
use Rattle.ep_layout.specs.declared.types.Ty.{Ty}
use Rattle.ep_layout.specs.Pointers.{next_pointer, IsNoPointer}

-- chains as lists of rows
abbrev pub lists : List (Vec ℕ) → List (List ℕ)
lists vs = map (λ (v : Vec ℕ). v.items) vs

-- a row more at the end of a chain
abbrev pub put_behind : List (List ℕ) → (chain row : ℕ) → List (List ℕ)
put_behind cs i n = put (slice_get cs i) where
  put : Option (List ℕ) → List (List ℕ)
  put None = cs
  put (Some c) = slice_set cs i (c ++ n ∷ [])

-- a row stands at its place in its chain, no deeper than its number, and the pointer to it, if there is one, behind it
pub record StandsInChain (ts : List Ty) (chains : List (List ℕ)) (n : ℕ) (p : ChainPlace) : Type 0 where
  pub chain : List ℕ
  pub low : p.depth ≤ n
  pub there : slice_get chains p.chain ≡ Some chain
  pub here : slice_get chain p.depth ≡ Some n
  pub next : next_pointer ts n ≡ slice_get chain (suc p.depth)

-- Each row has its place, and what stands in a chain has that place. There are no more chains than rows. A chain begins
-- with a row that is no pointer, a later chain with a later row. No pointer to a row beyond the types is there.
pub record AreChains (ts : List Ty) (places : List ChainPlace) (chains : List (List ℕ)) : Type 0 where
  pub count : length places ≡ length ts
  pub few : length chains ≤ length ts
  pub placed : (n : ℕ) (p : ChainPlace) → slice_get places n ≡ Some p → StandsInChain ts chains n p
  pub rows : (i d n : ℕ) (chain : List ℕ) → slice_get chains i ≡ Some chain → slice_get chain d ≡ Some n
      → slice_get places n ≡ Some (record { chain = i; depth = d })
  pub first : (i n : ℕ) (chain : List ℕ) → slice_get chains i ≡ Some chain → slice_get chain 0 ≡ Some n
      → IsNoPointer ts n
  pub begun : (i : ℕ) (chain : List ℕ) → slice_get chains i ≡ Some chain → 0 < length chain
  pub ordered : (i j m n : ℕ) (before after : List ℕ) → slice_get chains i ≡ Some before
      → slice_get chains j ≡ Some after → slice_get before 0 ≡ Some m → slice_get after 0 ≡ Some n → i < j → m < n
  pub beyond : (n : ℕ) → length ts ≤ n → next_pointer ts n ≡ None

abbrev pub HasChains : Inside → Type 0
HasChains s = AreChains s.types.keys s.places.items (lists s.chains.items)
