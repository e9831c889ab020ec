-- What is said of a finding: how grave it is, its code, and its message.
use Rattle.std.specs.Prelude.{ℕ, ◌++◌, List, codes}
use Rattle.abnf_syntax.specs.declared.fault.SyntaxFault.{SyntaxFault}
use Rattle.abnf_syntax.specs.declared.fault.SyntaxFault.TheVariants as f
use Rattle.abnf_lint.specs.declared.finding.Code.{Code}
use Rattle.abnf_lint.specs.declared.finding.Code.TheVariants as c
use Rattle.abnf_lint.specs.declared.message.Severity.{Severity}
use Rattle.abnf_lint.specs.declared.message.Severity.TheVariants.{Error, Warning}

-- whether a finding is an error or a warning: a text that is no rule, a name without a rule and a second definition are
-- errors; the others are warnings
abbrev pub severity_of : Code → Severity
severity_of (c.Syntax fault) = Error
severity_of c.NumberTooLarge = Error
severity_of c.TooDeep = Error
severity_of c.Undefined = Error
severity_of c.Duplicate = Error
severity_of c.NoBase = Warning
severity_of c.EmptyRepeat = Warning
severity_of c.EmptyRange = Warning
severity_of c.Unproductive = Warning

-- the text of a finding's code
abbrev pub code_text : Code → List ℕ
code_text (c.Syntax fault) = codes "syntax"
code_text c.NumberTooLarge = codes "number-too-large"
code_text c.TooDeep = codes "too-deep"
code_text c.Undefined = codes "undefined"
code_text c.Duplicate = codes "duplicate"
code_text c.NoBase = codes "no-base"
code_text c.EmptyRepeat = codes "empty-repeat"
code_text c.EmptyRange = codes "empty-range"
code_text c.Unproductive = codes "unproductive"

-- the text of a fault of the syntax
abbrev pub fault_text : SyntaxFault → List ℕ
fault_text (f.NoName p) = codes "rule name expected"
fault_text (f.NoDefinedAs p) = codes "\"=\" or \"=/\" expected"
fault_text (f.BadToken p) = codes "bad character"
fault_text (f.ElementExpected p) = codes "element expected"
fault_text (f.BlankExpected p) = codes "blank expected"
fault_text (f.Unclosed p) = codes "bracket not closed"
fault_text (f.NumberTooLarge p) = codes "number too large"
fault_text (f.TooDeep p) = codes "brackets nested too deep"
fault_text f.Memory = codes "out of memory"

-- the message of a code, with a name in those that have one
abbrev pub finding_message : Code → List ℕ → List ℕ
finding_message (c.Syntax fault) name = fault_text fault
finding_message c.NumberTooLarge name = codes "number too large"
finding_message c.TooDeep name = codes "brackets nested too deep"
finding_message c.Undefined name = codes "undefined rule " ++ name
finding_message c.Duplicate name = codes "rule " ++ name ++ codes " is already defined"
finding_message c.NoBase name = codes "no earlier definition of " ++ name
finding_message c.EmptyRepeat name = codes "repeat with minimum above maximum"
finding_message c.EmptyRange name = codes "range with low above high"
finding_message c.Unproductive name = codes "rule " ++ name ++ codes " generates nothing"
