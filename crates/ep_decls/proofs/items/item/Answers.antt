use Rattle.std.proofs.Common.{ℕ, Bool, List, map, refl}
use Rattle.ep_ast.specs.Statement.{Item}
use Rattle.ep_lexer.specs.Tokens.{view}
use Rattle.ep_reading.specs.Names.{is_type}
use Rattle.ep_decls.specs.Answer.{ShowsItem, MakesTypes, Worded, NewTypes, Arms, Itemed}
use Rattle.ep_reading.proofs.PassLemmas.{parses_parses}
use Rattle.ep_decls.proofs.ItemLemmas as items
use Rattle.ep_decls.proofs.items.item.Goals as goal

abbrev with_types : (List ℕ → Bool) → Item → Item × (List ℕ → Bool)
with_types N i = (i, N)

pub returns-in-Some-clause-reads : goal.returns-in-Some-clause-reads
returns-in-Some-clause-reads c =
    parses_parses (MakesTypes (is_type c.typedef.new.names)) (MakesTypes (is_type c.typedef.new.names))
    (NewTypes (is_type c.args.names.now) c.in-Some.line) (Itemed (is_type c.args.names.now))
    (map view c.in-Some.behind.now) (map view c.args.tokens.now) (λ v. v) c.typedef.result (λ k v h. h)
    (λ v zs t. items.types_taken (is_type c.args.names.now) (map view c.args.tokens.now) (map view c.in-Some.behind.now)
    zs c.in-Some.line c.in-Some.ensures.value.0 v c.in-Some.ensures.value.1 c.in-Some.ensures.value.2 t)
    (items.types_refused (is_type c.args.names.now) (map view c.args.tokens.now) (map view c.in-Some.behind.now)
    c.in-Some.line c.in-Some.ensures.value.0 c.in-Some.ensures.value.1 c.in-Some.ensures.value.2)
    c.typedef.ensures.reads

pub returns-in-Some-at_if-clause-reads : goal.returns-in-Some-at_if-clause-reads
returns-in-Some-at_if-clause-reads c =
    parses_parses ShowsItem (MakesTypes (is_type c.args.names.now))
    (Arms (is_type c.args.names.now) c.in-Some-at_if.line c.in-Some-at_if.order) (Itemed (is_type c.args.names.now))
    (map view c.in-Some-at_if.behind.now) (map view c.args.tokens.now) (with_types (is_type c.args.names.now))
    c.arms.result (λ k v h. (h, refl))
    (λ v zs t. items.arms_taken (is_type c.args.names.now) (map view c.args.tokens.now)
    (map view c.in-Some-at_if.behind.now) zs c.in-Some-at_if.line c.in-Some-at_if.order v
    c.in-Some-at_if.ensures.value t) (items.arms_refused (is_type c.args.names.now) (map view c.args.tokens.now)
    (map view c.in-Some-at_if.behind.now) c.in-Some-at_if.line c.in-Some-at_if.order c.in-Some-at_if.ensures.value)
    c.arms.ensures.reads

pub returns-clause-reads : goal.returns-clause-reads
returns-clause-reads c =
    parses_parses ShowsItem (MakesTypes (is_type c.args.names.now)) (Worded (is_type c.args.names.now))
    (Itemed (is_type c.args.names.now)) (map view c.args.tokens.now) (map view c.args.tokens.now)
    (with_types (is_type c.args.names.now)) c.worded_item.result (λ k v h. (h, refl))
    (λ v zs t. items.worded_taken (is_type c.args.names.now) (map view c.args.tokens.now) zs v
    c.in_default.ensures.value c.in_default-at_if.ensures.value t)
    (items.worded_refused (is_type c.args.names.now) (map view c.args.tokens.now) c.in_default.ensures.value
    c.in_default-at_if.ensures.value) c.worded_item.ensures.reads
