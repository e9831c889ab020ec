use Rattle.abnf_syntax.proofs.BlankLaws.{comment_told, content_told, blanks_told}
use Rattle.abnf_syntax.proofs.sheet.content_indent.Goals as goal

pub returns-then-bytes-indent-eq59 : goal.returns-then-bytes-indent-eq59
returns-then-bytes-indent-eq59 c = comment_told _ _ _ c.as_bytes-bytes.ensures.value c.in-Some.ensures c.if-bytes-indent-eq59.true

pub returns-else-bytes-indent-eq59 : goal.returns-else-bytes-indent-eq59
returns-else-bytes-indent-eq59 c = content_told _ _ _ c.as_bytes-bytes.ensures.value c.in-Some.ensures c.if-bytes-indent-eq59.false

pub returns-in-None : goal.returns-in-None
returns-in-None c = blanks_told _ _ c.as_bytes-bytes.ensures.value c.in-None.ensures
