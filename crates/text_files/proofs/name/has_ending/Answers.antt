use Rattle.std.proofs.Common.{ap, drop, map, ◌∙◌}
use Rattle.std.proofs.lemmas.Bool.Decides.{same_from_decides}
use Rattle.std.proofs.lemmas.List.{take_rest}
use Rattle.std.proofs.lemmas.Slice.Eq.{bytes_eq-Decides}
use Rattle.std.specs.Char.{to_ascii_lowercase}
use Rattle.std.specs.Str.{str_eq_ignore_ascii_case}
use Rattle.text_files.specs.Names.{has_ending}
use Rattle.text_files.proofs.name.has_ending.Goals as goal

pub returns : goal.returns
returns c =
    let name = c.as_bytes-name.result.now in
    let ending = c.as_bytes-ending.result.now in
    let rest = take_rest name _ ∙ ap (λ start. drop start name) c.saturating_sub-start.ensures in
    same_from_decides _ _ c.eq_ignore_ascii_case.ensures.test (bytes_eq-Decides (map to_ascii_lowercase _) (map to_ascii_lowercase ending))
    ∙ ap (λ text. str_eq_ignore_ascii_case text ending) rest
    ∙ ap (λ bytes. has_ending bytes name) c.as_bytes-ending.ensures.value
    ∙ ap (λ bytes. has_ending c.args.ending.now bytes) c.as_bytes-name.ensures.value
