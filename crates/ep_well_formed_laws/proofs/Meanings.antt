-- Expressions with what they mention.
use Rattle.std.proofs.Common.{◌<◌, false, length, arith}
use Rattle.ep_core.proofs.Tables.{more_types}
use Rattle.ep_typing.specs.Env.{Env}
use Rattle.ep_typing.specs.Names.{mentioned}
use Rattle.ep_elaboration.proofs.WholeOrder.{means_whole_statement}
use Rattle.ep_well_formed_laws.specs.Laws.{BlocksFit, DeclarationsFit, DefinitionsFit, ExpressionsFit, MentionsKeep}
use Rattle.ep_well_formed_laws.specs.Laws.{WholeStatementsFit}
use Rattle.ep_well_formed_laws.proofs.Mentions.{Mentions, covers_mentioned, env_mentioned, expression_mentioned}
use Rattle.ep_well_formed_laws.proofs.TypedExpressions.{typed_fits}
use Rattle.ep_elaboration.proofs.GivenOrder.{means_declaration}
use Rattle.ep_elaboration.proofs.StatementOrder.{means_parts}
use Rattle.ep_elaboration.proofs.FunctionOrder.{means_function_defined}
use Rattle.ep_well_formed_laws.proofs.DefinedFunctions.{definition_fits}
use Rattle.ep_well_formed_laws.proofs.FirstValues.{declaration_fits}
use Rattle.ep_well_formed_laws.proofs.Lines.{parts_fit}
use Rattle.ep_well_formed_laws.proofs.WholeStatements.{whole_fits}

pub some_types : (G H : Env) → Mentions G H → 0 < length G.types.types → 0 < length H.types.types
some_types G H m l = omega (arith, more_types G.types H.types m.grows, l)

pub mentions_keep : MentionsKeep
mentions_keep G seen e h c =
    let m = (expression_mentioned G e h.declared).mentions in
    (env_mentioned G (mentioned G e) h m, covers_mentioned seen G (mentioned G e) m c)

pub expressions_fit : ExpressionsFit
expressions_fit G seen e x h c l q =
    let H = mentioned G e in
    let m = expression_mentioned G e h.declared in
    typed_fits H seen (env_mentioned G H h m.mentions) (covers_mentioned seen G H m.mentions c)
    (some_types G H m.mentions l) e x m.there q

pub whole_statements_fit : WholeStatementsFit
whole_statements_fit G seen e may_call w h c l q result i =
    let H = mentioned G e in
    let m = expression_mentioned G e h.declared in
    (whole_fits H seen (env_mentioned G H h m.mentions) (covers_mentioned seen G H m.mentions c)
    (some_types G H m.mentions l) result may_call e w m.there (means_whole_statement H may_call e w q)).fits i

pub declarations_fit : DeclarationsFit
declarations_fit G result may_call d m h s l q =
    let k = declaration_fits G result may_call d m h s l (means_declaration G false may_call d m q) in
    (k.follows.env, λ seen i covers. k.fits seen covers i)

pub blocks_fit : BlocksFit
blocks_fit G c result i ps a h s l r q =
    let k = parts_fit G c result i ps a (record { env = h; scope = s; some = l; result_is = r }) (means_parts G c i ps a q) in
    (k.follows.env, k.fits)

pub definitions_fit : DefinitionsFit
definitions_fit G ds f d h c q =
    let k = definition_fits G ds f d h c (means_function_defined G ds f d q) in (k.env, k.covers, k.fits)
