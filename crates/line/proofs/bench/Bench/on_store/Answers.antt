use Rattle.std.proofs.Common.{◌≡◌, ◌-◌, ◌*◌, length, drop, min, [], ◌∷◌, ◌++◌, Some, sym, refl, subst, rules}
use Rattle.std.specs.Option.{option_map}
use Rattle.session.specs.Answers.{no}
use Rattle.session.specs.States.{State}
use Rattle.session.specs.Commanded.{On}
use Rattle.line.specs.Benches.{formed_of, state}
use Rattle.line.proofs.Parts.{served}
use Rattle.line.proofs.bench.Bench.on_store.Goals as goal

pub returns-in_default : goal.returns-in_default
returns-in_default c =
    let b = c.self.inside in (
      no (9 ∷ []),
      subst (λ (s : State). On s s.formed c.args.command (state b.store b.memory b.working) (no (9 ∷ []))) c.self.view_is
          (subst (λ o. On (state o b.memory b.working) (option_map formed_of o) c.args.command (state o b.memory b.working) (no (9 ∷ []))) (sym c.in_default.is) (refl, refl)),
      c.say.ensures,
    )

pub returns : goal.returns
returns c =
    let b = c.self.inside in
    let says = c.serve.ensures.says in
    let s = c.in-Some.store in
    let long : length b.memory ≡ 32768 = search rules in
    let end : c.min-end.result ≡ min (s.geometry.slots * s.geometry.page) (length b.memory) = cc in
    let after : State = state (Some c.serve.new.store) (c.serve.new.memory ++ drop (c.min-end.result - 0) b.memory) c.serve.new.working in (
      says.0,
      subst (λ (s : State). On s s.formed c.args.command after says.0) c.self.view_is
          (subst (λ o. On (state o b.memory b.working) (option_map formed_of o) c.args.command after says.0) (sym c.in-Some.is)
          (served b.memory c.serve.new.memory b.working c.min-end.result s end c.serve.auto.memory c.serve.new.store c.args.command c.serve.new.working says.0 c.serve.ensures.keeps says.1)),
      says.2,
    )
