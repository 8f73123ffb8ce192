-- What the readers of bounds, values and parameters answer.
use Rattle.std.specs.Prelude.{◌≡◌, ℕ, Bool, true, false, List, [], ◌∷◌, Option, Some, None, is_some}
use Rattle.std.specs.Global.{Vec}
use Rattle.std.specs.Option.{option_map}
use Rattle.std.specs.List.{list_any, list_all}
use Rattle.ep_ast.specs.declared.expressions.ExprTree.{ExprTree}
use Rattle.ep_ast.specs.declared.declarations.ValueTree.{ValueTree}
use Rattle.ep_ast.specs.declared.declarations.InitTree.{InitTree}
use Rattle.ep_ast.specs.Token.{Tok, word, mark, line_of}
use Rattle.ep_ast.specs.Mark.{void_word, right_paren}
use Rattle.ep_ast.specs.Expression as expressions
use Rattle.ep_ast.specs.Declaration.{Value, value_of, Init, init_of, Param, param_of}
use Rattle.ep_ast.specs.DeclarationGrammar.{is_void_alone}
use Rattle.ep_ast.specs.Depth.{in_init, in_param, is_deep_if, is_deep_value, are_deep}
use Rattle.ep_reading.specs.declared.measured.Measured.{Measured}
use Rattle.ep_reading.specs.declared.measured.Measured.TheVariants as measured
use Rattle.ep_reading.specs.Measured.{Shows, ShowsAll, all_of}
use Rattle.ep_declarations.specs.declared.parameters.MeasuredParameter.{MeasuredParameter}
use Rattle.ep_declarations.specs.declared.parameters.MeasuredParameters.{MeasuredParameters}

-- ---- bounds and values: whoever has them knows the line where they are too deep

-- the tree, in which nothing is too deep, or a line in place of one where something is
abbrev pub Holds : {T V : Type 0} → (T → V) → (V → Bool) → Measured T → V → Type 0
Holds shape is_deep (measured.Fits t) v = (shape t ≡ v) × (is_deep v ≡ false)
Holds shape is_deep (measured.TooDeep l) v = is_deep v ≡ true

-- the same of a list
abbrev pub HoldsAll : {T V : Type 0} → (T → V) → (V → Bool) → Measured (Vec T) → List V → Type 0
HoldsAll shape is_deep m vs = Holds (all_of shape) (list_any is_deep) m vs

abbrev pub bound_of : Option ExprTree → Option expressions.Expr
bound_of b = option_map expressions.expr b

abbrev pub ShowsBound : Measured (Option ExprTree) → Option expressions.Expr → Type 0
ShowsBound k b = Holds bound_of is_deep_if k b

abbrev pub ShowsBounds : Measured (Vec (Option ExprTree)) → List (Option expressions.Expr) → Type 0
ShowsBounds k bs = HoldsAll bound_of is_deep_if k bs

abbrev pub ShowsValue : Measured ValueTree → Value → Type 0
ShowsValue k v = Holds value_of is_deep_value k v

abbrev pub ShowsValues : Measured (Vec ValueTree) → List Value → Type 0
ShowsValues k vs = HoldsAll value_of is_deep_value k vs

abbrev pub ShowsInit : Measured InitTree → Init → Type 0
ShowsInit k i = Shows init_of in_init k i

-- stars and bounds, where they aren't too many together and no bound is too deep
abbrev pub Derives : Option (Vec ℕ × Vec (Option ExprTree)) → List ℕ → List (Option expressions.Expr) → Type 0
Derives (Some p) ns bs = (p.0.items ≡ ns) × (all_of bound_of p.1 ≡ bs) × (are_deep ns bs ≡ false)
Derives None ns bs = are_deep ns bs ≡ true

-- ---- parameters

abbrev pub first_line : List Tok → ℕ
first_line [] = 0
first_line (t ∷ ts) = line_of t

abbrev pub AtVoid : List Tok → Option (ℕ × List Tok) → Type 0
AtVoid ts (Some r) = (c m d : ℕ) × (c ≡ void_word) × (d ≡ right_paren) × (ts ≡ word r.0 c ∷ mark m d ∷ r.1)
AtVoid ts None = is_void_alone ts ≡ false

abbrev pub ShowsParameter : MeasuredParameter → Param → Type 0
ShowsParameter p q = Shows param_of in_param p.tree q × (p.named ≡ is_some q.name)

abbrev pub all_named : List Param → Bool
all_named ps = list_all (λ (p : Param). is_some p.name) ps

abbrev pub ShowsSome : MeasuredParameters → List Param → Type 0
ShowsSome p qs = ShowsAll param_of in_param p.trees qs × (p.named ≡ all_named qs)
