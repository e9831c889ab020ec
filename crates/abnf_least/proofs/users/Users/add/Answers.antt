use Rattle.std.proofs.Common.{◌≡◌, ◌<◌, ◌+◌, ◌^◌, length, arith, refl, get_or}
use Rattle.std.proofs.lemmas.List.{get_or_read}
use Rattle.abnf_least.specs.declared.users.Link.{Link}
use Rattle.abnf_least.proofs.Listed.{adds_first, adds_link}
use Rattle.abnf_least.proofs.users.Users.add.Goals as goal

pub returns-then-next-eq0 : goal.returns-then-next-eq0
returns-then-next-eq0 c =
    let old = c.args.self.now in
    let within : c.args.part < length old.starts.items = omega (arith, c.if-part-len.false, c.len.ensures) in
    let none : get_or old.starts.items c.args.part 0 ≡ 0 = grind (arith, c.index-next.ensures, c.if-next-eq0.true) in
    adds_first old _ c.args.part c.args.user (c.in_ok-user.user + 1) within none (omega (arith, c.in_ok-user.ensures)) (omega (arith, c.in_ok-user.ensures)) refl refl

pub returns : goal.returns
returns c =
    let old = c.args.self.now in
    let within : c.args.part < length old.starts.items = omega (arith, c.if-part-len.false, c.len.ensures) in
    let link : Link = record { user = c.in_ok-user.user; next = c.index-next.result.now } in
    let was : link.next ≡ get_or old.starts.items c.args.part 0 = get_or_read old.starts.items c.args.part c.index-next.result.now within c.index-next.ensures 0 in
    adds_link old _ c.args.part c.args.user link (2 ^ 31 + c.in_ok-number.number) within c.in_ok-user.ensures.0 was (omega (arith, c.in_ok-number.ensures, c.len-2.ensures)) c.in_ok-push.ensures.items refl
