use Rattle.std.proofs.Common.{◌<◌, length, arith, Result, Ok, Err}
use Rattle.std.specs.Prelude.{OnErr}
use Rattle.abnf_syntax.specs.declared.block.Block.{Block}
use Rattle.abnf_syntax.specs.Items.{AreItems}
use Rattle.abnf_syntax.proofs.BlockLaws.{none_found, found_more, all_found, All_none, All_snoc}
use Rattle.abnf_syntax.proofs.block.blocks_between.Goals as goal

pub blocks-2-init : goal.blocks-2-init
blocks-2-init c = record {
  within = c.next_block-first.ensures.within;
  begins = c.next_block-first.ensures.begins;
  all = none_found c.args.sheet.now c.args.from c.args.to c.next_block-first.result c.new-found.result.items c.new-found.ensures.items c.next_block-first.ensures;
  items = All_none (λ (b : Block). AreItems c.args.sheet.now b.first b.end b.items) _ c.new-found.ensures.items;
  some = All_none (λ (b : Block). 0 < length b.items) _ c.new-found.ensures.items;
}

pub blocks-2-preserved : goal.blocks-2-preserved
blocks-2-preserved c = record {
  within = c.next_block-end.ensures.within;
  begins = c.next_block-end.ensures.begins;
  all =
      found_more c.args.sheet.now c.args.from c.args.to c.blocks-2.found.items (record { first = c.blocks-2.first; end = c.next_block-end.result; items = c.in_ok-items.items }) c.push.new.self.items
      c.in_ok-push.ensures.items c.requires.seams.1 (c.blocks-2.invariant.begins c.blocks-2-test.true) c.next_block-end.ensures c.blocks-2.invariant.all;
  items = All_snoc (λ (b : Block). AreItems c.args.sheet.now b.first b.end b.items) _ _ _ c.in_ok-push.ensures.items c.blocks-2.invariant.items c.in_ok-items.ensures.items;
  some = All_snoc (λ (b : Block). 0 < length b.items) _ _ _ c.in_ok-push.ensures.items c.blocks-2.invariant.some c.in_ok-items.ensures.some;
}

pub returns-clause-all : goal.returns-clause-all
returns-clause-all c = all_found c.args.sheet.now c.args.from c.args.to c.blocks-2.first c.blocks-2.found.items (omega (arith, c.blocks-2-test.false)) c.blocks-2.invariant.all

pub returns-clause-items : goal.returns-clause-items
returns-clause-items c = c.blocks-2.invariant.items

pub returns-clause-some : goal.returns-clause-some
returns-clause-some c = c.blocks-2.invariant.some

pub returns-clause-memory : goal.returns-clause-memory
returns-clause-memory c = tt

on_err : {A E P : Type 0} (result : Result A E) → P → OnErr result P
on_err (Ok a) p = tt
on_err (Err e) p = p

pub returns-in_err-items-clause-memory : goal.returns-in_err-items-clause-memory
returns-in_err-items-clause-memory c = on_err c.from_residual.result (c.blocks-2.first, c.blocks-2.invariant.begins c.blocks-2-test.true)

pub returns-in_err-push-clause-memory : goal.returns-in_err-push-clause-memory
returns-in_err-push-clause-memory c = on_err c.from_residual-in_err-push.result (c.blocks-2.first, c.blocks-2.invariant.begins c.blocks-2-test.true)
