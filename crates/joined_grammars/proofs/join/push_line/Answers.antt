use Rattle.std.proofs.Common.{◌∙◌, ◌++◌, ◌∷◌, [], List, ℕ, ap, refl, subst}
use Rattle.std.specs.Prelude.{string_bytes}
use Rattle.std.specs.Option.{option_map_or}
use Rattle.std.specs.Str.{chars, IsUtf8}
use Rattle.std.proofs.lemmas.Str.{IsUtf8-string_bytes}
use Rattle.joined_grammars.specs.Joined.{with_break}
use Rattle.joined_grammars.proofs.LineLaws.{ended_bytes}
use Rattle.joined_grammars.proofs.join.push_line.Goals as goal

pub returns-in_ok-push_str-2 : goal.returns-in_ok-push_str-2
returns-in_ok-push_str-2 c =
    let old = string_bytes c.args.joined.now in
    let line : List ℕ = c.in-Some.line.now in
    let both : IsUtf8 (old ++ line) = subst IsUtf8 c.in_ok-push_str.ensures.bytes (IsUtf8-string_bytes c.push_str.new.self) in
    ap chars (c.in_ok-push_str-2.ensures.bytes ∙ ap (λ (t : List ℕ). t ++ 10 ∷ []) c.in_ok-push_str.ensures.bytes)
    ∙ (ended_bytes old line (chars line) (IsUtf8-string_bytes c.args.joined.now) c.in-Some.ensures.utf8 both refl
    ∙ ap (λ o. chars old ++ option_map_or with_break o []) c.in-Some.ensures.characters)
