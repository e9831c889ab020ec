-- What is found in one text tells what is found in another.
use Rattle.std.proofs.Common.{◌≡◌, ℕ, ◌^◌, ◌<◌, List, length, map, sym, subst}
use Rattle.abnf_token.specs.Classes.{Text}
use Rattle.abnf_syntax.specs.Blocks.{line_texts}
use Rattle.abnf_syntax.proofs.Exist.{text_has_tokens}
use Rattle.abnf_lint.specs.declared.finding.Finding.{Finding}
use Rattle.abnf_lint.specs.Rows.{AreRows}
use Rattle.abnf_digests.specs.Moved.{moved_finding}
use Rattle.abnf_digests.specs.Replaced.{AreReplaced}
use Rattle.abnf_digests.proofs.FindingsMove.{findings_moved}
use Rattle.incremental_findings.specs.declared.difference.Difference.{Difference}
use Rattle.incremental_findings.specs.own.Parts.{HasTokens}
use Rattle.incremental_findings.specs.own.Moves.{AreFoundOutside}
use Rattle.incremental_findings.specs.own.Walks.{SayTheSame}
use Rattle.incremental_findings.proofs.MoveLaws.{none_found}

-- ---- each line has tokens

pub texts_have_tokens : (text : List ℕ) (ls : List Text) → ls ≡ line_texts text → length text < 2 ^ 62 → HasTokens ls
texts_have_tokens text ls e small = subst HasTokens (sym e) (text_has_tokens text small)

-- ---- findings that move

-- Where none of what is found in a text is found in a part, and the part's lines say the same of blocks as those in their place, it is what is found in the other text, moved with its lines.
pub rows_moved : (text other : List ℕ) (ours theirs : List Text) (rows lent moved : List Finding) (part : Difference) → ours ≡ line_texts text → theirs ≡ line_texts other
    → length text < 2 ^ 62 → length other < 2 ^ 62 → AreReplaced ours theirs part.front part.old part.new → lent ≡ rows → AreFoundOutside part lent → SayTheSame ours part.front part.old theirs part.front part.new
    → moved ≡ map (moved_finding part.front part.old part.new) rows → AreRows text rows → AreRows other moved
rows_moved text other ours theirs rows lent moved part ours_are theirs_are small there replaced lent_is outside same moved_is are =
    let in_texts : AreReplaced (line_texts text) (line_texts other) part.front part.old part.new =
    subst (λ (ls : List Text). AreReplaced ls (line_texts other) part.front part.old part.new) ours_are
    (subst (λ (ls : List Text). AreReplaced ours ls part.front part.old part.new) theirs_are replaced)
    in
    let said : SayTheSame (line_texts text) part.front part.old (line_texts other) part.front part.new =
    subst (λ (ls : List Text). SayTheSame ls part.front part.old (line_texts other) part.front part.new) ours_are
    (subst (λ (ls : List Text). SayTheSame ours part.front part.old ls part.front part.new) theirs_are same)
    in
    let none : AreFoundOutside part rows = subst (λ (fs : List Finding). AreFoundOutside part fs) lent_is outside in
    subst (AreRows other) (sym moved_is)
    (findings_moved text other part.front part.old part.new said.bare_items rows small there in_texts said.ours said.theirs (none_found part rows none) are)
