use Rattle.std.proofs.Common.{◌≡◌, ◌<◌, List, Ok, length, refl, subst, sym}
use Rattle.std.specs.Prelude.{IfOk, IsOk}
use Rattle.abnf_syntax.specs.declared.item.Item.{Item}
use Rattle.abnf_syntax.specs.Machine.{parse}
use Rattle.abnf_syntax.proofs.Exact.{one_rule}
use Rattle.abnf_syntax.proofs.Goes.{parsed_goes, if_parsed}
use Rattle.abnf_syntax.proofs.Whole.{parse_faulty}
use Rattle.abnf_syntax.proofs.parse.read_block.Goals as goal

pub sound_parsed-requires : goal.sound_parsed-requires
sound_parsed-requires c =
    let items = c.args.block.now.items in record {
      some = subst (λ (is : List Item). 0 < length is) (sym c.as_slice.ensures) c.requires.some;
      sound = subst (λ (is : List Item). IsOk (parse is)) (sym c.as_slice.ensures) (parsed_goes items c.requires.sound (parse items) refl (λ fault. parse_faulty items fault c.requires.some));
    }

pub returns : goal.returns
returns c =
    let said = subst (λ (is : List Item). IfOk c.sound_parsed.result (λ rule. parse is ≡ Ok rule)) c.as_slice.ensures c.sound_parsed.ensures in
    record { derives = if_parsed c.args.block.now.items c.sound_parsed.result said; one = one_rule c.args.block.now.items }
