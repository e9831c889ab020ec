use Rattle.std.proofs.Common.{◌≡◌, ◌∙◌, ℕ, List, Option, None, Some, refl, sym, ap, subst}
use Rattle.std.specs.Prelude.{Vec}
use Rattle.std.specs.Option.{option_map}
use Rattle.std.specs.declared.alloc.Global.{Global}
use Rattle.ls_history.specs.Told.{heard_of}
use Rattle.ls_threads.specs.Reading.{IsTold, HeardReplies}
use Rattle.ls_threads.proofs.reading.Reader.tell.Goals as goal

-- what is said to whoever asked, by the body that was made
by_body : (wanted : Option (List ℕ)) (made known : Option (Vec ℕ Global)) → option_map (λ (b : Vec ℕ Global). b.items) made ≡ wanted → made ≡ known
    → wanted ≡ option_map (λ (b : Vec ℕ Global). b.items) known
by_body wanted made known said is = sym said ∙ ap (option_map (λ (b : Vec ℕ Global). b.items)) is

pub returns-in_default-clause-ok : goal.returns-in_default-clause-ok
returns-in_default-clause-ok g c =
    let heard : HeardReplies = heard_of c.args.self.now.seat.front in
    subst (λ (body : Option (List ℕ)). IsTold body heard heard) (sym (by_body _ c.in_ok-body.field-0 None c.in_ok-body.ensures.body c.in_default.is)) refl

pub returns-clause-ok : goal.returns-clause-ok
returns-clause-ok g c =
    subst
    (λ (body : Option (List ℕ)). IsTold body (heard_of c.args.self.now.seat.front) (heard_of c.client.new.seat.front))
    (sym (by_body _ c.in_ok-body.field-0 (Some c.in-Some.body) c.in_ok-body.ensures.body c.in-Some.is ∙ ap Some (sym c.from_vec.ensures)))
    (c.in_ok-client.field-0, c.in_ok-client.ensures.history)
