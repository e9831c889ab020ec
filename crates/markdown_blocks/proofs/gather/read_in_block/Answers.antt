use Rattle.std.proofs.Common.{◌≡◌, [], ◌∷◌, ap, sym, ◌∙◌}
use Rattle.std.specs.Str.{chars}
use Rattle.markdown_blocks.specs.declared.reading.Reading.TheVariants.{BehindBlock, Block}
use Rattle.markdown_blocks.specs.Fences.{first_says, with_word}
use Rattle.markdown_blocks.specs.Unread.{all_blocks, block_ended, first_lists, no_list, with_list}
use Rattle.markdown_blocks.specs.own.Reading.{with_blocks}
use Rattle.markdown_blocks.proofs.FenceLaws.{blocks_closed, blocks_more, with_more}
use Rattle.markdown_blocks.proofs.gather.read_in_block.Goals as goal

pub returns-then-closed : goal.returns-then-closed
returns-then-closed c end ls says lists =
    let fence = c.args.fence in
    let found = c.args.found.now in
    let block = c.args.block.now in
    let closed = sym c.in_ok-closed.ensures ∙ c.if-closed.true in
    let word : c.with_word.result ≡ with_word (first_says ls) fence = c.with_word.ensures ∙ ap (λ b. with_word b fence) (c.in_ok-says.ensures.0 ∙ sym says) in
    let beside : c.with_list.result ≡ with_list (first_lists ls) c.args.beside = c.with_list.ensures ∙ ap (λ b. with_list b c.args.beside) (c.in_ok-says.ensures.1 ∙ sym lists) in
    let one = block_ended (with_word (first_says ls) fence) (with_list (first_lists ls) c.args.beside) block c.args.line.at in
    (λ i. with_blocks ((c.in_ok-end_block.ensures ∙ (λ j. with_blocks found (block_ended (word j) (beside j) block c.args.line.at ∷ []))) i) (all_blocks end BehindBlock no_list (c.clear.ensures i) ls))
    ∙ with_more found (one ∷ []) (all_blocks end BehindBlock no_list [] ls)
    ∙ ap (with_blocks found) (sym (blocks_closed end fence c.args.beside block (c.args.line.at, chars c.args.line.text.now) ls closed))

pub returns : goal.returns
returns c end ls says lists =
    let goes_on = sym c.in_ok-closed.ensures ∙ c.if-closed.false in
    ap (λ content. with_blocks c.args.found.now (all_blocks end (Block c.args.fence) c.args.beside content ls)) c.in_ok-put_line.ensures
    ∙ ap (with_blocks c.args.found.now) (sym (blocks_more end c.args.fence c.args.beside c.args.block.now (c.args.line.at, chars c.args.line.text.now) ls goes_on))
