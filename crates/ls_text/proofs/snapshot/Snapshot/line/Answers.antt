use Rattle.std.proofs.Common.{◌≡◌, ◌≤◌, arith, ap, length}
use Rattle.std.specs.Prelude.{Some, None}
use Rattle.std.specs.List.{slice_get}
use Rattle.std.specs.Option.{option_map}
use Rattle.std.specs.Str.{chars, encode_utf8_all}
use Rattle.ls_text.specs.Lines.{lines}
use Rattle.ls_text.proofs.CutLaws.{line_some, line_none, bytes_some}
use Rattle.ls_text.proofs.snapshot.Snapshot.line.Goals as goal

pub returns-then-at-len : goal.returns-then-at-len
returns-then-at-len c =
    let found : Some (chars c.text.result.now) ≡ slice_get (lines c.args.self.now) c.args.at = line_some c.self.inside.lines _ _ c.self.invariant.lines c.self.view_is c.line-line.result.0 _ c.line-line.ensures.in_range c.line-line.ensures.line_is c.text.ensures.characters in
    record { characters = found; bytes = bytes_some _ c.text.utf8 found; utf8 = c.text.utf8 }

pub returns-else-at-len : goal.returns-else-at-len
returns-else-at-len c =
    let past : length c.self.inside.lines ≤ c.args.at = omega (arith, c.if-at-len.false, c.len.ensures) in
    let found : None ≡ slice_get (lines c.args.self.now) c.args.at = line_none c.self.inside.lines _ _ c.self.invariant.lines c.self.view_is past in
    record { characters = found; bytes = ap (option_map encode_utf8_all) found; utf8 = tt }
