-- Programs in memory, seen as plain data.
use Rattle.std.specs.Prelude.{ℕ, List, [], ◌∷◌, map}
use Rattle.std.specs.Option.{option_map}
use Rattle.ep_core.specs.declared.tree.Expr as tree
use Rattle.ep_core.specs.declared.tree.Expr.TheVariants.{Const, Null, Load', AddrOf', Bin', Convert', Compare'}
use Rattle.ep_core.specs.declared.tree.Expr.TheVariants.{PtrCompare', And', Or', Not', Cond', PtrAdd', Cast'}
use Rattle.ep_core.specs.declared.tree.Place as part
use Rattle.ep_core.specs.declared.tree.Place.TheVariants.{Block, Deref', Member', Element'}
use Rattle.ep_core.specs.declared.tree.Dest as dest
use Rattle.ep_core.specs.declared.tree.Stmt as statement
use Rattle.ep_core.specs.declared.tree.What as action
use Rattle.ep_core.specs.declared.tree.What.{Row_of-Stmt, end_of-Stmt, more_of-Stmt}
use Rattle.ep_core.specs.declared.tree.What.TheVariants.{Nothing, Eval, Assign, Clear, CopyAggregate, CopyBytes, Fill}
use Rattle.ep_core.specs.declared.tree.What.TheVariants.{Call, Input, Output, ReadBytes, WriteBytes, If', Loop', Break}
use Rattle.ep_core.specs.declared.tree.What.TheVariants.{Continue, Return, ByOrder', Scope'}
use Rattle.ep_core.specs.declared.program.BlockInfo.{BlockInfo}
use Rattle.ep_core.specs.declared.program.InitByte.{InitByte}
use Rattle.ep_core.specs.declared.program.Function as function
use Rattle.ep_layout.specs.Table.{Table}
use Rattle.ep_core.specs.Program as plain

abbrev mutual
  pub expr_view : tree.Expr → plain.Expr
  expr_view (Const t v) = plain.const t v
  expr_view Null = plain.null_value
  expr_view (Load' what p a) = plain.load what (place_view a)
  expr_view (AddrOf' p a) = plain.addr_of (place_view a)
  expr_view (Bin' op t p a q b) = plain.binary op t (expr_view a) (expr_view b)
  expr_view (Convert' t p e) = plain.convert t (expr_view e)
  expr_view (Compare' c t p a q b) = plain.compare c t (expr_view a) (expr_view b)
  expr_view (PtrCompare' c p a q b) = plain.ptr_compare c (expr_view a) (expr_view b)
  expr_view (And' p a q b) = plain.logical_and (expr_view a) (expr_view b)
  expr_view (Or' p a q b) = plain.logical_or (expr_view a) (expr_view b)
  expr_view (Not' p a) = plain.logical_not (expr_view a)
  expr_view (Cond' p t q a r b) = plain.conditional (expr_view t) (expr_view a) (expr_view b)
  expr_view (PtrAdd' unit back p e q n) = plain.ptr_add (expr_view e) unit (expr_view n) back
  expr_view (Cast' p e) = plain.cast (expr_view e)

  pub place_view : part.Place → plain.Place
  place_view (Block b) = plain.block b
  place_view (Deref' p e) = plain.deref (expr_view e)
  place_view (Member' p a offset) = plain.member (place_view a) offset
  place_view (Element' p a bound unit q i) = plain.element (place_view a) bound unit (expr_view i)

abbrev pub dest_view : dest.Dest → plain.Dest
dest_view d = record { what = d.what; cast = d.cast; place = place_view d.place }

abbrev mutual
  pub what_view : action.What → plain.What
  what_view Nothing = plain.simple plain.nothing
  what_view (Eval e) = plain.simple (plain.eval (expr_view e))
  what_view (Assign what a e) = plain.simple (plain.assign what (place_view a) (expr_view e))
  what_view (Clear a ty) = plain.simple (plain.clear (place_view a) ty)
  what_view (CopyAggregate to from ty) = plain.simple (plain.copy_aggregate (place_view to) (place_view from) ty)
  what_view (CopyBytes to from n) = plain.simple (plain.copy_bytes (expr_view to) (expr_view from) n)
  what_view (Fill to byte n) = plain.simple (plain.fill (expr_view to) (expr_view byte) n)
  what_view (Call k es d) = plain.call k (map expr_view es.items) (option_map dest_view d)
  what_view (Input t d) = plain.simple (plain.input t (option_map dest_view d))
  what_view (Output t e) = plain.simple (plain.output t (expr_view e))
  what_view (ReadBytes to n) = plain.simple (plain.read_bytes (expr_view to) n)
  what_view (WriteBytes from n) = plain.simple (plain.write_bytes (expr_view from) n)
  what_view (If' e p a q b) = plain.if_else (expr_view e) (row_view a) (row_view b)
  what_view (Loop' first e p a q b) = plain.loop first (expr_view e) (row_view a) (row_view b)
  what_view Break = plain.break_loop
  what_view Continue = plain.continue_loop
  what_view (Return e) = plain.simple (plain.returns (option_map expr_view e))
  what_view (ByOrder' o p a q b) = plain.by_order o (row_view a) (row_view b)
  what_view (Scope' bs p a) = plain.scope bs.items (row_view a)

  pub row_view : {m : _} → Row_of-Stmt m → plain.Stmts
  row_view end_of-Stmt = plain.stop
  row_view (more_of-Stmt l w rest) = plain.more l (what_view w) (row_view rest)

abbrev pub stmts_view : List statement.Stmt → plain.Stmts
stmts_view [] = plain.stop
stmts_view (s ∷ rest) = plain.more s.line (what_view s.what) (stmts_view rest)

abbrev pub block_view : BlockInfo → plain.Block
block_view b = record { size = b.size; ty = b.ty; global = b.global }

abbrev pub init_view : InitByte → plain.Init
init_view i = record { block = i.block; offset = i.offset; t = i.t; value = i.value }

abbrev pub function_view : function.Function → plain.Function
function_view f = record {
  name = f.name.items;
  line = f.line;
  params = f.params.items;
  result = f.result;
  locals = f.locals.items;
  body = stmts_view f.body.items;
}

abbrev pub parts_view : Table → List BlockInfo → List InitByte → List function.Function → ℕ → plain.Program
parts_view types blocks init functions main = record {
  types = types;
  blocks = map block_view blocks;
  init = map init_view init;
  functions = map function_view functions;
  main = main;
}
