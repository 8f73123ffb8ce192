use Rattle.std.proofs.Common.{rules, ◌≡◌, ◌++◌, ◌∷◌, [], false, length, get_or, sym, subst, arith, refl}
use Rattle.ep_bytes.specs.declared.store.Block.{Block}
use Rattle.ep_bytes.specs.StoreView.{AreLaid, block_of}
use Rattle.ep_bytes.proofs.Laid.{laid_more, plain_more}
use Rattle.ep_bytes.proofs.store.Store.new.Goals as goal

pub loop-size-preserved : goal.loop-size-preserved
loop-size-preserved c =
    let old = c.loop-size.blocks.items in
    let x : Block = record { start = c.len.result; size = get_or c.args.sizes.now c.loop-size.size-index 0; is_zeroed = false } in
    let items : c.push.new.self.items ≡ old ++ x ∷ [] = search rules in
    let longer = c.in_ok-extend.ensures.longer in
    record {
      count = search rules;
      laid = subst (λ bs. AreLaid bs (length c.extend.new.cells)) (sym items)
          (laid_more old x (length c.loop-size.cells) (length c.extend.new.cells) c.loop-size.invariant.laid
          c.len.ensures.value (omega (arith, longer)));
      sizes = search rules;
      plain = λ b. subst (λ bs. (block_of bs b).is_zeroed ≡ false) (sym items)
          (plain_more old x c.loop-size.invariant.plain refl b);
      undefined = search rules;
    }
