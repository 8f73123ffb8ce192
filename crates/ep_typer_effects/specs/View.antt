-- What stands right of an assignment, seen as what the definitions speak of.
use Rattle.ep_typing.specs.Typing as rule
use Rattle.ep_stores.specs.View.{called, operand}
use Rattle.ep_typer_effects.specs.declared.right.Right.{Right}
use Rattle.ep_typer_effects.specs.declared.right.Right.TheVariants as rights

abbrev pub right : Right → rule.Right
right (rights.Object x) = rule.an_object (operand x)
right (rights.Result f) = rule.a_result (called f)
