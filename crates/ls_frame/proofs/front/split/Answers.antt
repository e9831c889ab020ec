use Rattle.std.proofs.Common.{◌≡◌, ℕ, ◌+◌, List, [], ◌∷◌, ◌++◌, take, sym, ◌∙◌, ap, subst}
use Rattle.std.specs.Prelude.{Vec}
use Rattle.std.specs.declared.alloc.Global.{Global}
use Rattle.std.proofs.lemmas.List.{map_push}
use Rattle.ls_frame.specs.Frames.{Frames}
use Rattle.ls_frame.specs.Feeds.{contents_of}
use Rattle.ls_frame.proofs.Fills.{split_rest, split_end, split_more}
use Rattle.ls_frame.proofs.front.split.Goals as goal

pub returns-in-Rest : goal.returns-in-Rest
returns-in-Rest c = split_rest c.args.bytes.now c.frames.at (contents_of c.frames.found.items) c.in-Rest.rest c.frames.invariant.within c.frames.invariant.frames c.in-Rest.ensures

pub frames-preserved : goal.frames-preserved
frames-preserved c =
    let pushed : c.push.new.self.items ≡ c.frames.found.items ++ c.in_ok-content-in-Frame.content ∷ [] = c.in_ok-push-in-Frame.ensures.items in
    let contents : contents_of c.push.new.self.items ≡ contents_of c.frames.found.items ++ c.in_ok-content-in-Frame.content.items ∷ [] =
    ap contents_of pushed ∙ map_push (λ (v : Vec ℕ Global). v.items) c.frames.found.items c.in_ok-content-in-Frame.content in
    let P : List (List ℕ) → Type 0 = λ l. Frames (take (c.frames.at + c.in-Frame.end) c.args.bytes.now) l in
    record {
      within = split_end c.args.bytes.now c.frames.at c.in-Frame.from c.in-Frame.end c.frames.invariant.within c.in-Frame.ensures;
      frames = subst P (sym contents) (split_more c.args.bytes.now c.frames.at c.in-Frame.from c.in-Frame.end (contents_of c.frames.found.items) c.in_ok-content-in-Frame.content.items
          c.frames.invariant.within c.frames.invariant.frames c.in-Frame.ensures c.in_ok-content-in-Frame.ensures.items);
    }
