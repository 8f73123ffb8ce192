-- What plain words ask is within the rules: the two orders of a report are different ones, and a sample has no more
-- fields than are allowed.
use Rattle.std.proofs.Common.{◌≡◌, ◌≤◌, ℕ, refl, sym, subst, Bool, true, false, ◌&&◌, not, List, [], ◌∷◌, Option}
use Rattle.std.proofs.Common.{Some, None, IfSome, nat_eq, nat_le, bytes_eq, codes, length, map, is_none, option_map}
use Rattle.std.proofs.Common.{option_and_then, unwrap_or, if◌then◌else◌}
use Rattle.std.proofs.lemmas.Bool.{leb-true}
use Rattle.ep_int.specs.declared.types.Model.{Model}
use Rattle.ep_int.specs.declared.types.Order.{Order}
use Rattle.ep_int.specs.declared.types.Order.TheVariants as orders
use Rattle.ep_words.specs.declared.command.Command.{Command}
use Rattle.ep_words.specs.View as view
use Rattle.ep_words.specs.Words as rule
use Rattle.ep_words.specs.Words.{AreOther, IsWithinRules}

either : {A : Type 0} (P : A → Type 0) (b : Bool) (x y : Option A) → IfSome x P → IfSome y P
    → IfSome (if b then x else y) P
either P true x y h k = h
either P false x y h k = k

if_so : {A : Type 0} (P : A → Type 0) (b : Bool) (x : A) → P x → IfSome (if b then Some x else None) P
if_so P true x h = h
if_so P false x h = tt

next : {A B : Type 0} (P : A → Type 0) (Q : B → Type 0) (f : A → Option B) (x : Option A) → IfSome x P
    → ((a : A) → P a → IfSome (f a) Q) → IfSome (option_and_then f x) Q
next P Q f None h k = tt
next P Q f (Some a) h k = k a h

named : (w : rule.Word) → IfSome (rule.orders_named w) AreOther
named w =
    either AreOther (bytes_eq w (codes "little,big")) (Some (orders.Little, orders.Big)) _ (λ e. absurd cc)
    (either AreOther (bytes_eq w (codes "little,swapped-words")) (Some (orders.Little, orders.SwappedWords)) _
    (λ e. absurd cc)
    (either AreOther (bytes_eq w (codes "big,little")) (Some (orders.Big, orders.Little)) _ (λ e. absurd cc)
    (either AreOther (bytes_eq w (codes "big,swapped-words")) (Some (orders.Big, orders.SwappedWords)) _
    (λ e. absurd cc)
    (either AreOther (bytes_eq w (codes "swapped-words,little")) (Some (orders.SwappedWords, orders.Little)) _
    (λ e. absurd cc)
    (if_so AreOther (bytes_eq w (codes "swapped-words,big")) (orders.SwappedWords, orders.Big) (λ e. absurd cc))))))

abbrev HasOther : rule.Options → Type 0
HasOther o = IfSome o.orders AreOther

order : (o : rule.Options) (x : Option Order) → HasOther o → IfSome (rule.with_order o x) HasOther
order o None h = tt
order o (Some x) h = if_so HasOther (is_none o.order) (record o { order = Some x }) h

steps : (o : rule.Options) (x : Option ℕ) → HasOther o → IfSome (rule.with_steps o x) HasOther
steps o None h = tt
steps o (Some x) h = if_so HasOther (is_none o.steps) (record o { steps = Some x }) h

model : (o : rule.Options) (x : Option Model) → HasOther o → IfSome (rule.with_model o x) HasOther
model o None h = tt
model o (Some x) h = if_so HasOther (is_none o.model) (record o { model = Some x }) h

unroll : (o : rule.Options) (x : Option ℕ) → HasOther o → IfSome (rule.with_unroll o x) HasOther
unroll o None h = tt
unroll o (Some x) h = if_so HasOther (is_none o.unroll) (record o { unroll = Some x }) h

both : (o : rule.Options) (x : Option (Order × Order)) → IfSome x AreOther → IfSome (rule.with_orders o x) HasOther
both o None h = tt
both o (Some x) h = if_so HasOther (is_none o.orders) (record o { orders = Some x }) h

known : (o : rule.Options) (b : Bool) → HasOther o → IfSome (rule.with_known_bits o b) HasOther
known o b h = if_so HasOther (b && not o.known_bits) (record o { known_bits = true }) h

one_more : (o : rule.Options) (n v : rule.Word) → HasOther o → IfSome (rule.with_option o n v) HasOther
one_more o n v h =
    either HasOther (bytes_eq n (codes "--order")) _ _ (order o (rule.order_named v) h)
    (either HasOther (bytes_eq n (codes "--steps")) _ _ (steps o (rule.number rule.most_steps v) h)
    (either HasOther (bytes_eq n (codes "--model")) _ _ (model o (rule.model_named v) h)
    (either HasOther (bytes_eq n (codes "--unroll")) _ _ (unroll o (rule.number rule.most_unroll v) h)
    (either HasOther (bytes_eq n (codes "--orders")) _ _ (both o (rule.orders_named v) (named v))
    (either HasOther (bytes_eq n (codes "--domain")) _ None (known o (bytes_eq v (codes "bits")) h) tt)))))

abbrev HasOtherFirst : rule.Options × List rule.Word → Type 0
HasOtherFirst r = HasOther (r.0)

leading : (o : rule.Options) (ws : List rule.Word) → HasOther o → IfSome (rule.options o ws) HasOtherFirst
unfolding rule.options
leading o [] h = h
leading o (w ∷ []) h = h
leading o (n ∷ v ∷ ws) h =
    either HasOtherFirst (rule.begins_as_option n) _ _
    (next HasOther HasOtherFirst (λ p. rule.options p ws) (rule.with_option o n v) (one_more o n v h)
    (λ p k. leading p ws k)) h

usual : (x : Option (Order × Order)) → IfSome x AreOther → AreOther (unwrap_or x (orders.Little, orders.Big))
usual None h = λ e. absurd cc
usual (Some x) h = h

reports : (o : rule.Options) (ws : List rule.Word) → HasOther o → IfSome (rule.check_of o ws) IsWithinRules
reports o [] h = tt
reports o (file ∷ []) h =
    if_so IsWithinRules (rule.is_no_run o && rule.is_file file)
    (rule.check (rule.unroll_of o) (rule.orders_of o) (rule.model_of o) o.known_bits file) (usual o.orders h)
reports o (file ∷ w ∷ ws) h = tt

proofs : (o : rule.Options) (ws : List rule.Word) → HasOther o → IfSome (rule.prove_of o ws) IsWithinRules
proofs o [] h = tt
proofs o (file ∷ []) h =
    if_so IsWithinRules (rule.is_no_run o && not o.known_bits && rule.is_file file)
    (rule.prove (rule.unroll_of o) (rule.orders_of o) (rule.model_of o) file) (usual o.orders h)
proofs o (file ∷ w ∷ ws) h = tt

layouts : (o : rule.Options) (ws : List rule.Word) → IfSome (rule.layout_of o ws) IsWithinRules
layouts o [] = tt
layouts o (file ∷ []) =
    if_so IsWithinRules (rule.is_no_run o && rule.is_no_check o && rule.is_file file)
    (rule.layout (rule.model_of o) file) tt
layouts o (file ∷ w ∷ ws) = tt

run : (x : Option Order) (n : Option ℕ) (m : Model) (file : rule.Word) (inputs : List ℕ)
    → IfSome (rule.run_with x n m file inputs) IsWithinRules
run None n m file inputs = tt
run (Some x) None m file inputs = tt
run (Some x) (Some n) m file inputs = tt

runs : (o : rule.Options) (ws : List rule.Word) → IfSome (rule.run_of o ws) IsWithinRules
runs o [] = tt
runs o (file ∷ ws) =
    either IsWithinRules
    (rule.is_no_check o && rule.is_file file && nat_le (length ws) rule.most_inputs && rule.are_inputs ws)
    (rule.run_with o.order o.steps (rule.model_of o) file (map rule.input ws)) None
    (run o.order o.steps (rule.model_of o) file (map rule.input ws)) tt

asks : (f : rule.Options → List rule.Word → Option rule.Command) (ws : List rule.Word)
    → ((o : rule.Options) (ws : List rule.Word) → HasOther o → IfSome (f o ws) IsWithinRules)
    → IfSome (rule.with_options f ws) IsWithinRules
asks f ws h =
    next HasOtherFirst IsWithinRules (λ r. f (r.0) (r.1)) (rule.options rule.no_options ws)
    (leading rule.no_options ws tt) (λ r k. h (r.0) (r.1) k)

within : (most : ℕ) (w : rule.Word) → IfSome (rule.number most w) (λ n. n ≤ most)
within most w = go (rule.are_digits w) (nat_le (rule.digits_value w) most) refl where
  go : (digits small : Bool) → nat_le (rule.digits_value w) most ≡ small
      → IfSome (if digits && small then Some (rule.digits_value w) else None) (λ n. n ≤ most)
  go false small e = tt
  go true false e = tt
  go true true e = leb-true (rule.digits_value w) most e

sampled : (s n : Option ℕ) → IfSome n (λ n. n ≤ rule.most_fields) → IfSome (rule.sample_with s n) IsWithinRules
sampled None n h = tt
sampled (Some s) None h = tt
sampled (Some s) (Some n) h = either IsWithinRules (nat_eq n 0) None (Some (rule.sample s n)) tt h

samples : (ws : List rule.Word) → IfSome (rule.sample_of ws) IsWithinRules
samples [] = tt
samples (start ∷ []) = tt
samples (start ∷ fields ∷ []) =
    sampled (rule.number rule.most_start start) (rule.number rule.most_fields fields)
    (within rule.most_fields fields)
samples (start ∷ fields ∷ w ∷ ws) = tt

certificates : (ws : List rule.Word) → IfSome (rule.verify_of ws) IsWithinRules
certificates [] = tt
certificates (file ∷ []) = if_so IsWithinRules (rule.is_file file) (rule.verify file) tt
certificates (file ∷ w ∷ ws) = tt

commands : (c : rule.Word) (ws : List rule.Word) → IfSome (rule.named c ws) IsWithinRules
commands c ws =
    either IsWithinRules (bytes_eq c (codes "check")) _ _ (asks rule.check_of ws reports)
    (either IsWithinRules (bytes_eq c (codes "layout")) _ _ (asks rule.layout_of ws (λ o ws h. layouts o ws))
    (either IsWithinRules (bytes_eq c (codes "run")) _ _ (asks rule.run_of ws (λ o ws h. runs o ws))
    (either IsWithinRules (bytes_eq c (codes "sample")) _ _ (samples ws)
    (either IsWithinRules (bytes_eq c (codes "prove")) _ _ (asks rule.prove_of ws proofs)
    (either IsWithinRules (bytes_eq c (codes "verify")) _ None (certificates ws) tt)))))

pub within_rules : (r : Option Command) (c : rule.Word) (ws : List rule.Word)
    → option_map view.command r ≡ rule.named c ws → IfSome r (λ c. IsWithinRules (view.command c))
within_rules None c ws e = tt
within_rules (Some x) c ws e = subst (λ x. IfSome x IsWithinRules) (sym e) (commands c ws)
