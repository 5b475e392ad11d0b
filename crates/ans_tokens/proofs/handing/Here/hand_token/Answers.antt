use Rattle.std.proofs.Common.{ℕ, ◌+◌, ◌∙◌, subst}
use Rattle.ans_model.specs.Inside.ShownKind.{shown_kind}
use Rattle.ans_tokens.specs.Token.{kind_of, length_of}
use Rattle.ans_tokens.proofs.WalkSteps.{walks_one}
use Rattle.ans_tokens.proofs.handing.Here.hand_token.Goals as goal

pub returns : goal.returns
returns g c =
    let here = c.args.self.now in
    let place = c.requires.place in
    let next = c.requires.next in
    record {
      some = rw c.length-length.ensures next.front.nonempty;
      over = λ first before.
          rw c.length-length.ensures (walks_one g.W.Walker.walked here.content.now here.end first place.end here.at
          c.args.walker.now before place.within (shown_kind (kind_of c.args.token.now)) (length_of c.args.token.now)
          next.front g.W.Walker.ready c.token-goes_on.new.self c.token-goes_on.result
          (subst (λ (k : ℕ). g.W.Walker.ready c.token-goes_on.new.self (k + length_of c.args.token.now)) next.starts
          c.token-goes_on.ensures.ready)
          (λ n over. rw c.length-length.ensures at (c.token-goes_on.ensures.walked first before.front) _ (record {
            each = n.each;
            whole = n.whole;
            spelled = n.spelled;
            starts = next.starts ∙ n.starts;
            long = n.long;
          }) over));
    }
