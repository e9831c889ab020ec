use Rattle.std.proofs.Common.{◌≡◌, false, List, Some, Err, sym, subst}
use Rattle.std.specs.Prelude.{All, IfErr}
use Rattle.std.specs.Result.{result_err}
use Rattle.abnf_syntax.specs.declared.item.Item.{Item}
use Rattle.abnf_syntax.specs.Kinds.{opens}
use Rattle.abnf_syntax.specs.Grammar.{kind_of}
use Rattle.abnf_syntax.specs.own.Check.{Shows}
use Rattle.abnf_syntax.specs.Machine.{parse, early}
use Rattle.abnf_syntax.proofs.CheckLaws.{check_sound, check_derived, check_shows, check_shown, check_bare}
use Rattle.abnf_syntax.proofs.Early.{early_fault}
use Rattle.abnf_syntax.proofs.check.check_block.Goals as goal

-- what the private function says, of the block's own list
shows : (c : goal.After-checked) → Shows c.checked.result (result_err (parse c.args.block.now.items))
shows c = subst (λ (items : List Item). Shows c.checked.result (result_err (parse items))) c.as_slice.ensures c.checked.ensures.shows

pub returns-clause-sound : goal.returns-clause-sound
returns-clause-sound c = check_sound c.args.block.now.items c.checked.result (shows c)

pub returns-clause-derived : goal.returns-clause-derived
returns-clause-derived c = check_derived c.args.block.now.items c.checked.result (shows c)

pub returns-clause-shows : goal.returns-clause-shows
returns-clause-shows c = check_shows c.args.block.now.items c.checked.result c.requires (shows c)

pub returns-clause-shown : goal.returns-clause-shown
returns-clause-shown c = check_shown c.args.block.now.items c.checked.result c.requires (shows c)

pub returns-clause-early : goal.returns-clause-early
returns-clause-early c fault shows few =
    c.checked.ensures.early fault (subst (λ (items : List Item). early items ≡ Some fault) (sym c.as_slice.ensures) (early_fault c.args.block.now.items fault shows few))

pub returns-clause-bare : goal.returns-clause-bare
returns-clause-bare c all =
    let Bare : List Item → Type 0 = λ items. All (λ item. opens (kind_of item) ≡ false) items → IfErr c.checked.result (λ fault. parse items ≡ Err fault) in
    check_bare c.args.block.now.items c.checked.result c.requires (subst Bare c.as_slice.ensures c.checked.ensures.bare all)
