use Rattle.std.proofs.Common.{refl, sym}
use Rattle.abnf_token.specs.declared.token.Kind.TheVariants as k
use Rattle.abnf_token.proofs.Runs.{alone}
use Rattle.abnf_token.proofs.Closing.{none_found}
use Rattle.abnf_token.proofs.scan.longest_unless.Goals as goal

pub returns-in-47 : goal.returns-in-47
returns-in-47 c = alone k.Slash 0x2F c.args.bytes.now c.requires.some c.in-47.is refl

pub returns-in-40 : goal.returns-in-40
returns-in-40 c = alone k.ParenL 0x28 c.args.bytes.now c.requires.some c.in-40.is refl

pub returns-in-41 : goal.returns-in-41
returns-in-41 c = alone k.ParenR 0x29 c.args.bytes.now c.requires.some c.in-41.is refl

pub returns-in-91 : goal.returns-in-91
returns-in-91 c = alone k.BracketL 0x5B c.args.bytes.now c.requires.some c.in-91.is refl

pub returns-in-93 : goal.returns-in-93
returns-in-93 c = alone k.BracketR 0x5D c.args.bytes.now c.requires.some c.in-93.is refl

pub returns-in-60 : goal.returns-in-60
returns-in-60 c = sym (none_found c.args.bytes.now c.requires.some c.in-60.is (c.requires.closes c.if-not-may_close.true))
