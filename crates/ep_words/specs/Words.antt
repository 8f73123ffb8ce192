-- The words of the command line. This project's rules.
use Rattle.std.specs.Prelude.{◌≡◌, ℕ, ◌+◌, ◌*◌, ◌-◌, ◌≤◌, nat_le, ◌==◌, Bool, true, false, ◌&&◌, not, if◌then◌else◌}
use Rattle.std.specs.Prelude.{List, [], ◌∷◌, length, map, Option, Some, None, is_none, is_some, bytes_eq, codes}
use Rattle.std.specs.Prelude.{option_and_then, unwrap_or}
use Rattle.std.specs.List.{list_all}
use Rattle.ep_int.specs.declared.types.Model.{Model}
use Rattle.ep_int.specs.declared.types.Model.TheVariants as models
use Rattle.ep_int.specs.declared.types.Order.{Order}
use Rattle.ep_int.specs.declared.types.Order.TheVariants as orders

abbrev pub Word : Type 0
Word = List ℕ

-- ---- files

abbrev pub is_dash : ℕ → Bool
is_dash b = b == 45

-- a name that isn't empty and doesn't begin as an option does
abbrev pub is_file : Word → Bool
is_file [] = false
is_file (b ∷ bs) = not (is_dash b)

-- ---- numbers

abbrev pub is_digit : ℕ → Bool
is_digit b = nat_le 48 b && nat_le b 57

-- the number of decimal digits, behind those of this number
abbrev pub digits_from : ℕ → Word → ℕ
digits_from n [] = n
digits_from n (b ∷ bs) = digits_from (n * 10 + (b - 48)) bs

abbrev pub digits_value : Word → ℕ
digits_value w = digits_from 0 w

-- 1 to 20 decimal digits
abbrev pub are_digits : Word → Bool
are_digits w = not (length w == 0) && nat_le (length w) 20 && list_all is_digit w

-- a number that is no greater than this
abbrev pub number : (most : ℕ) → Word → Option ℕ
number most w = if are_digits w && nat_le (digits_value w) most then Some (digits_value w) else None

-- ---- values of options

abbrev pub order_named : Word → Option Order
order_named w =
    if bytes_eq w (codes "little") then Some orders.Little
    else if bytes_eq w (codes "big") then Some orders.Big
    else if bytes_eq w (codes "swapped-words") then Some orders.SwappedWords
    else None

-- two different orders: their names with one comma between them
abbrev pub orders_named : Word → Option (Order × Order)
orders_named w =
    if bytes_eq w (codes "little,big") then Some (orders.Little, orders.Big)
    else if bytes_eq w (codes "little,swapped-words") then Some (orders.Little, orders.SwappedWords)
    else if bytes_eq w (codes "big,little") then Some (orders.Big, orders.Little)
    else if bytes_eq w (codes "big,swapped-words") then Some (orders.Big, orders.SwappedWords)
    else if bytes_eq w (codes "swapped-words,little") then Some (orders.SwappedWords, orders.Little)
    else if bytes_eq w (codes "swapped-words,big") then Some (orders.SwappedWords, orders.Big)
    else None

abbrev pub model_named : Word → Option Model
model_named w =
    if bytes_eq w (codes "ilp32") then Some models.Ilp32
    else if bytes_eq w (codes "lp64") then Some models.Lp64
    else None

abbrev pub most_steps : ℕ
most_steps = 1000000

-- the most turns of a loop that are gone through by themselves
abbrev pub most_unroll : ℕ
most_unroll = 4096

-- ---- options: two words each, each once at most, before the positional words

pub record Options : Type 0 where
  pub order : Option Order
  pub steps : Option ℕ
  pub model : Option Model
  pub unroll : Option ℕ
  pub orders : Option (Order × Order)
  -- known bits are asked for
  pub known_bits : Bool

abbrev pub no_options : Options
no_options = record { order = None; steps = None; model = None; unroll = None; orders = None; known_bits = false }

abbrev pub with_order : Options → Option Order → Option Options
with_order o None = None
with_order o (Some x) = if is_none o.order then Some (record o { order = Some x }) else None

abbrev pub with_steps : Options → Option ℕ → Option Options
with_steps o None = None
with_steps o (Some n) = if is_none o.steps then Some (record o { steps = Some n }) else None

abbrev pub with_model : Options → Option Model → Option Options
with_model o None = None
with_model o (Some m) = if is_none o.model then Some (record o { model = Some m }) else None

abbrev pub with_unroll : Options → Option ℕ → Option Options
with_unroll o None = None
with_unroll o (Some n) = if is_none o.unroll then Some (record o { unroll = Some n }) else None

abbrev pub with_orders : Options → Option (Order × Order) → Option Options
with_orders o None = None
with_orders o (Some x) = if is_none o.orders then Some (record o { orders = Some x }) else None

-- known bits are the only domain that is named
abbrev pub with_known_bits : Options → (is_bits : Bool) → Option Options
with_known_bits o b = if b && not o.known_bits then Some (record o { known_bits = true }) else None

-- an option more, if there is one of this name and its value is one
abbrev pub with_option : Options → (name value : Word) → Option Options
with_option o name value =
    if bytes_eq name (codes "--order") then with_order o (order_named value)
    else if bytes_eq name (codes "--steps") then with_steps o (number most_steps value)
    else if bytes_eq name (codes "--model") then with_model o (model_named value)
    else if bytes_eq name (codes "--unroll") then with_unroll o (number most_unroll value)
    else if bytes_eq name (codes "--orders") then with_orders o (orders_named value)
    else if bytes_eq name (codes "--domain") then with_known_bits o (bytes_eq value (codes "bits"))
    else None

abbrev pub begins_as_option : Word → Bool
begins_as_option [] = false
begins_as_option (b ∷ bs) = is_dash b

-- the options that stand first, and the words behind them
unfoldable pub options : Options → List Word → Option (Options × List Word)
options o [] = Some (o, [])
options o (w ∷ []) = Some (o, w ∷ [])
options o (name ∷ value ∷ words) =
    if begins_as_option name then option_and_then (λ p. options p words) (with_option o name value)
    else Some (o, name ∷ value ∷ words)

-- ---- commands

pub data Command : Type 0 where
  check : (unroll : ℕ) (orders : Order × Order) (model : Model) (known_bits : Bool) (file : Word) → Command
  layout : (model : Model) (file : Word) → Command
  run : (order : Order) (steps : ℕ) (model : Model) (file : Word) (inputs : List ℕ) → Command
  sample : (start fields : ℕ) → Command
  prove : (unroll : ℕ) (orders : Order × Order) (model : Model) (file : Word) → Command
  verify : (file : Word) → Command

-- the model that is named, else ilp32
abbrev pub model_of : Options → Model
model_of o = unwrap_or o.model models.Ilp32

-- the number of turns that is named, else 32
abbrev pub unroll_of : Options → ℕ
unroll_of o = unwrap_or o.unroll 32

-- the two orders that are named, else little and big
abbrev pub orders_of : Options → Order × Order
orders_of o = unwrap_or o.orders (orders.Little, orders.Big)

-- none of the options that a run alone has
abbrev pub is_no_run : Options → Bool
is_no_run o = is_none o.order && is_none o.steps

-- none of the options that a report alone has
abbrev pub is_no_check : Options → Bool
is_no_check o = is_none o.unroll && is_none o.orders && not o.known_bits

abbrev pub check_of : Options → List Word → Option Command
check_of o [] = None
check_of o (file ∷ []) =
    if is_no_run o && is_file file then Some (check (unroll_of o) (orders_of o) (model_of o) o.known_bits file)
    else None
check_of o (file ∷ word ∷ words) = None

-- without known bits
abbrev pub prove_of : Options → List Word → Option Command
prove_of o [] = None
prove_of o (file ∷ []) =
    if is_no_run o && not o.known_bits && is_file file then Some (prove (unroll_of o) (orders_of o) (model_of o) file)
    else None
prove_of o (file ∷ word ∷ words) = None

abbrev pub layout_of : Options → List Word → Option Command
layout_of o [] = None
layout_of o (file ∷ []) =
    if is_no_run o && is_no_check o && is_file file then Some (layout (model_of o) file) else None
layout_of o (file ∷ word ∷ words) = None

abbrev pub greatest_input : ℕ
greatest_input = 18446744073709551615

abbrev pub is_input : Word → Bool
is_input w = is_some (number greatest_input w)

-- the number of an input
abbrev pub input : Word → ℕ
input w = unwrap_or (number greatest_input w) 0

abbrev pub are_inputs : List Word → Bool
are_inputs ws = list_all is_input ws

abbrev pub most_inputs : ℕ
most_inputs = 65536

abbrev pub run_with : Option Order → Option ℕ → Model → Word → List ℕ → Option Command
run_with None steps m file inputs = None
run_with (Some o) None m file inputs = None
run_with (Some o) (Some n) m file inputs = Some (run o n m file inputs)

abbrev pub run_of : Options → List Word → Option Command
run_of o [] = None
run_of o (file ∷ words) =
    if is_no_check o && is_file file && nat_le (length words) most_inputs && are_inputs words
    then run_with o.order o.steps (model_of o) file (map input words)
    else None

-- ---- samples: a number to start with and a number of fields

abbrev pub most_start : ℕ
most_start = 2147483647

abbrev pub most_fields : ℕ
most_fields = 5000

abbrev pub sample_with : Option ℕ → Option ℕ → Option Command
sample_with None fields = None
sample_with (Some start) None = None
sample_with (Some start) (Some fields) = if fields == 0 then None else Some (sample start fields)

-- no options
abbrev pub sample_of : List Word → Option Command
sample_of [] = None
sample_of (start ∷ []) = None
sample_of (start ∷ fields ∷ []) = sample_with (number most_start start) (number most_fields fields)
sample_of (start ∷ fields ∷ word ∷ words) = None

-- ---- certificates: their file, and no options

abbrev pub verify_of : List Word → Option Command
verify_of [] = None
verify_of (file ∷ []) = if is_file file then Some (verify file) else None
verify_of (file ∷ word ∷ words) = None

-- ---- words

abbrev pub with_options : (Options → List Word → Option Command) → List Word → Option Command
with_options f ws = option_and_then (λ (r : Options × List Word). f r.0 r.1) (options no_options ws)

abbrev pub named : (command : Word) → List Word → Option Command
named command words =
    if bytes_eq command (codes "check") then with_options check_of words
    else if bytes_eq command (codes "layout") then with_options layout_of words
    else if bytes_eq command (codes "run") then with_options run_of words
    else if bytes_eq command (codes "sample") then sample_of words
    else if bytes_eq command (codes "prove") then with_options prove_of words
    else if bytes_eq command (codes "verify") then verify_of words
    else None

-- What plain words ask: the program's name, a command, its options, and its positional words.
abbrev pub plain : List Word → Option Command
plain [] = None
plain (name ∷ []) = None
plain (name ∷ command ∷ words) = named command words

-- the two orders of a report, or of a certificate, are different ones
abbrev pub AreOther : Order × Order → Type 0
AreOther p = (p.0 ≡ p.1) → ⊥

-- a report and a certificate compare two different orders, and a sample has no more fields than the rules allow
abbrev pub IsWithinRules : Command → Type 0
IsWithinRules (check unroll orders model known_bits file) = AreOther orders
IsWithinRules (layout model file) = Unit {0}
IsWithinRules (run order steps model file inputs) = Unit {0}
IsWithinRules (sample start fields) = fields ≤ most_fields
IsWithinRules (prove unroll orders model file) = AreOther orders
IsWithinRules (verify file) = Unit {0}
