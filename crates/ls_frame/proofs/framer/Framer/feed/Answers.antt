use Rattle.std.proofs.Common.{rules, ◌≡◌, length, refl, sym, ◌∙◌, ap, arith, Ok, Err}
use Rattle.ls_frame.specs.Feeds.{contents_of}
use Rattle.ls_frame.specs.own.Rests.{RestIs}
use Rattle.ls_frame.specs.declared.fault.FrameFault.TheVariants.{Memory}
use Rattle.ls_frame.specs.declared.front.Rest.TheVariants.{Open, Faulty}
use Rattle.ls_frame.proofs.Feeding.{refused, cut_back, kept, Longer, longer, feed_stuck, feed_waits, rest_waits, rest_behind, feed_open, feed_faulty, feed_stream}
use Rattle.ls_frame.proofs.framer.Framer.feed.Goals as goal

pub same-self : goal.same-self
same-self c = refl

pub returns-in-Faulty-clause-taken : goal.returns-in-Faulty-clause-taken
returns-in-Faulty-clause-taken c =
    let seen = c.self.view_is in
    let view : c.self.inside.pending.items ≡ c.args.self.now = cc in
    let known : RestIs c.args.self.now (Faulty c.in-Faulty.fault) = kept c.self.inside.pending.items c.args.self.now c.self.inside.rest (Faulty c.in-Faulty.fault) c.self.invariant c.in-Faulty.is view in
    feed_stuck c.args.self.now c.args.piece.now (contents_of c.args.out.now.items) c.in-Faulty.fault known.0

pub returns-in-Faulty-clause-stream : goal.returns-in-Faulty-clause-stream
returns-in-Faulty-clause-stream c seen given s =
    feed_stream seen c.args.self.now c.args.piece.now c.args.self.now given (contents_of c.args.out.now.items) (contents_of c.args.out.now.items) (Err c.in-Faulty.fault) s (returns-in-Faulty-clause-taken c)

pub invariant_of-self : goal.invariant_of-self
invariant_of-self c =
    let same : c.extend_from_slice.new.self.items ≡ c.self.inside.pending.items = refused c.self.inside.pending.items c.args.piece.now c.extend_from_slice.new.self.items _ c.extend_from_slice.ensures.items (search rules) in
    kept c.self.inside.pending.items c.extend_from_slice.new.self.items c.self.inside.rest c.self.inside.rest c.self.invariant refl (sym same)

pub returns-then-is_err-clause-taken : goal.returns-then-is_err-clause-taken
returns-then-is_err-clause-taken c =
    let seen = c.self.view_is in
    let view : c.self.inside.pending.items ≡ c.args.self.now = cc in
    let open_rest : RestIs c.args.self.now (Open c.in-Open.wanted) = kept c.self.inside.pending.items c.args.self.now c.self.inside.rest (Open c.in-Open.wanted) c.self.invariant c.in-Open.is view in
    let same : c.extend_from_slice.new.self.items ≡ c.self.inside.pending.items = refused c.self.inside.pending.items c.args.piece.now c.extend_from_slice.new.self.items _ c.extend_from_slice.ensures.items (search rules) in
    (open_rest.0.0, same ∙ view, refl)

pub returns-then-is_err-clause-stream : goal.returns-then-is_err-clause-stream
returns-then-is_err-clause-stream c seen given s =
    feed_stream seen c.args.self.now c.args.piece.now c.extend_from_slice.new.self.items given (contents_of c.args.out.now.items) (contents_of c.args.out.now.items) (Err Memory) s (returns-then-is_err-clause-taken c)

pub invariant_of-self-then-len-wanted : goal.invariant_of-self-then-len-wanted
invariant_of-self-then-len-wanted c =
    let more : Longer c.self.inside.pending.items c.args.piece.now c.extend_from_slice.new.self.items c.in-Open.wanted =
    longer c.self.inside.pending.items c.self.inside.pending.items c.args.piece.now c.extend_from_slice.new.self.items c.self.inside.rest c.in-Open.wanted _ c.self.invariant c.in-Open.is refl c.extend_from_slice.ensures.items (search rules) in
    rest_waits c.self.inside.pending.items c.args.piece.now c.extend_from_slice.new.self.items c.self.inside.rest c.in-Open.wanted more (search rules) c.in-Open.is

pub returns-then-len-wanted-clause-taken : goal.returns-then-len-wanted-clause-taken
returns-then-len-wanted-clause-taken c =
    let seen = c.self.view_is in
    let view : c.self.inside.pending.items ≡ c.args.self.now = cc in
    let more : Longer c.args.self.now c.args.piece.now c.extend_from_slice.new.self.items c.in-Open.wanted =
    longer c.self.inside.pending.items c.args.self.now c.args.piece.now c.extend_from_slice.new.self.items c.self.inside.rest c.in-Open.wanted _ c.self.invariant c.in-Open.is view c.extend_from_slice.ensures.items (search rules) in
    feed_waits c.args.self.now c.args.piece.now c.extend_from_slice.new.self.items (contents_of c.args.out.now.items) c.in-Open.wanted more (search rules)

pub returns-then-len-wanted-clause-stream : goal.returns-then-len-wanted-clause-stream
returns-then-len-wanted-clause-stream c seen given s =
    feed_stream seen c.args.self.now c.args.piece.now c.extend_from_slice.new.self.items given (contents_of c.args.out.now.items) (contents_of c.args.out.now.items) (Ok 0) s (returns-then-len-wanted-clause-taken c)

pub invariant_of-self-in_default : goal.invariant_of-self-in_default
invariant_of-self-in_default c =
    let same : c.truncate.new.self.items ≡ c.self.inside.pending.items =
    cut_back c.self.inside.pending.items c.args.piece.now c.extend_from_slice.new.self.items c.truncate.new.self.items c.len-had.result _ c.extend_from_slice.ensures.items (search rules) (search rules) c.truncate.ensures.items in
    kept c.self.inside.pending.items c.truncate.new.self.items c.self.inside.rest c.self.inside.rest c.self.invariant refl (sym same)

pub returns-in_default-clause-taken : goal.returns-in_default-clause-taken
returns-in_default-clause-taken c =
    let seen = c.self.view_is in
    let view : c.self.inside.pending.items ≡ c.args.self.now = cc in
    let same : c.truncate.new.self.items ≡ c.self.inside.pending.items =
    cut_back c.self.inside.pending.items c.args.piece.now c.extend_from_slice.new.self.items c.truncate.new.self.items c.len-had.result _ c.extend_from_slice.ensures.items (search rules) (search rules) c.truncate.ensures.items in
    let open_rest : RestIs c.args.self.now (Open c.in-Open.wanted) = kept c.self.inside.pending.items c.args.self.now c.self.inside.rest (Open c.in-Open.wanted) c.self.invariant c.in-Open.is view in
    (open_rest.0.0, same ∙ view, c.in_default.ensures)

pub returns-in_default-clause-stream : goal.returns-in_default-clause-stream
returns-in_default-clause-stream c seen given s =
    feed_stream seen c.args.self.now c.args.piece.now c.truncate.new.self.items given (contents_of c.args.out.now.items) (contents_of c.take_frames.new.out.items) (Err Memory) s (returns-in_default-clause-taken c)

pub drop_front-requires : goal.drop_front-requires
drop_front-requires c = let same : length c.deref.result.now ≡ length c.extend_from_slice.new.self.items = ap length c.deref.ensures.value in omega (arith, same, c.in-Ok.ensures.3.0)

pub invariant_of-self-in-Faulty-rest : goal.invariant_of-self-in-Faulty-rest
invariant_of-self-in-Faulty-rest c =
    rest_behind c.extend_from_slice.new.self.items c.deref.result.now c.drop_front.new.bytes.items (contents_of c.args.out.now.items) (contents_of c.take_frames.new.out.items) c.in-Ok.field-0 c.deref.ensures.value c.in-Ok.ensures
    c.drop_front.ensures

pub returns-in-Faulty-rest-clause-taken : goal.returns-in-Faulty-rest-clause-taken
returns-in-Faulty-rest-clause-taken c =
    let seen = c.self.view_is in
    let view : c.self.inside.pending.items ≡ c.args.self.now = cc in
    let more : Longer c.args.self.now c.args.piece.now c.extend_from_slice.new.self.items c.in-Open.wanted =
    longer c.self.inside.pending.items c.args.self.now c.args.piece.now c.extend_from_slice.new.self.items c.self.inside.rest c.in-Open.wanted _ c.self.invariant c.in-Open.is view c.extend_from_slice.ensures.items (search rules) in
    feed_faulty c.args.self.now c.args.piece.now c.extend_from_slice.new.self.items c.deref.result.now c.drop_front.new.bytes.items (contents_of c.args.out.now.items) (contents_of c.take_frames.new.out.items) c.in-Open.wanted
    c.in-Faulty-rest.fault c.in-Ok.field-0 more c.deref.ensures.value c.in-Ok.ensures c.in-Faulty-rest.is c.drop_front.ensures

pub returns-in-Faulty-rest-clause-stream : goal.returns-in-Faulty-rest-clause-stream
returns-in-Faulty-rest-clause-stream c seen given s =
    feed_stream seen c.args.self.now c.args.piece.now c.drop_front.new.bytes.items given (contents_of c.args.out.now.items) (contents_of c.take_frames.new.out.items) (Err c.in-Faulty-rest.fault) s (returns-in-Faulty-rest-clause-taken c)

pub invariant_of-self-in-Open-rest : goal.invariant_of-self-in-Open-rest
invariant_of-self-in-Open-rest c =
    rest_behind c.extend_from_slice.new.self.items c.deref.result.now c.make_room.new.bytes.items (contents_of c.args.out.now.items) (contents_of c.take_frames.new.out.items) c.in-Ok.field-0 c.deref.ensures.value c.in-Ok.ensures
    (c.make_room.ensures ∙ c.drop_front.ensures)

pub returns-in-Open-rest-clause-taken : goal.returns-in-Open-rest-clause-taken
returns-in-Open-rest-clause-taken c =
    let seen = c.self.view_is in
    let view : c.self.inside.pending.items ≡ c.args.self.now = cc in
    let more : Longer c.args.self.now c.args.piece.now c.extend_from_slice.new.self.items c.in-Open.wanted =
    longer c.self.inside.pending.items c.args.self.now c.args.piece.now c.extend_from_slice.new.self.items c.self.inside.rest c.in-Open.wanted _ c.self.invariant c.in-Open.is view c.extend_from_slice.ensures.items (search rules) in
    feed_open c.args.self.now c.args.piece.now c.extend_from_slice.new.self.items c.deref.result.now c.make_room.new.bytes.items (contents_of c.args.out.now.items) (contents_of c.take_frames.new.out.items) c.in-Open.wanted
    c.in-Open-rest.wanted c.in-Ok.field-0 more c.deref.ensures.value c.in-Ok.ensures c.in-Open-rest.is (c.make_room.ensures ∙ c.drop_front.ensures)

pub returns-in-Open-rest-clause-stream : goal.returns-in-Open-rest-clause-stream
returns-in-Open-rest-clause-stream c seen given s =
    feed_stream seen c.args.self.now c.args.piece.now c.make_room.new.bytes.items given (contents_of c.args.out.now.items) (contents_of c.take_frames.new.out.items) (Ok c.in-Ok.field-0.count) s (returns-in-Open-rest-clause-taken c)
