use Rattle.std.proofs.Common.{arith, sym, ap, ◌∙◌, ℕ, [], ◌∷◌, length, length-set}
use Rattle.turn_steps.specs.declared.view.Place.TheVariants.{Away}
use Rattle.turn_steps.specs.Tied.{place, counted}
use Rattle.turn_steps.proofs.Slots.{reaches, lays, step_one, between, finally}
use Rattle.turn_steps.proofs.words.Words.exchange_at.Goals as goal

pub load-requires : goal.load-requires
load-requires g c = let is = c.requires.held in let aim = sym c.requires.aim in let v = c.args.pass.now.token.me.0 in (
  c.requires.pass.of_table,
  (let h = c.args.self.now.words in omega arith),
  reaches g.R.TieRule.content g.R.TieRule.holds _ _ _ c.args.pass.now.token.me g.K.Aim.turn is.0 (ap (counted v) (sym aim) ∙ is.1) (λ e. c.requires.home (ap (place v) aim ∙ e))
      (c.requires.pass.places) (let h = c.requires.turn in let e = c.requires.aim in omega arith),
)

-- the pass after the first load
pub load-requires-2 : goal.load-requires-2
load-requires-2 g c =
    let is = c.requires.held in
    let v = c.args.pass.now.token.me.0 in
    let t : ℕ = c.args.turn in
    let new = c.args.new in
    let first = step_one _ _ v t c.load.ensures.2.0 _ _ c.requires.aim c.requires.pass.empty c.load.ensures.2.1 in
    let now = between g.R.TieRule.content v t c.load.ensures.2.0 new _ _ first c.exchange-old.ensures.3 in (
      c.exchange-old.ensures.0 ∙ c.load.ensures.0 ∙ c.requires.pass.of_table,
      (let h = c.args.self.now.words in omega arith),
      lays g.R.TieRule.content g.R.TieRule.holds _ _ _ c.exchange-old.new.seat.me t new [] is.0 (now ∙ ap (λ m. (m.0, (t, new) ∷ [])) (sym now))
          (ap (λ m. counted m.0 t) now ∙ is.1) (ap (λ m. length m.0.places) now ∙ length-set v.places t Away ∙ c.requires.pass.places) c.requires.turn,
    )

pub returns-clause-pass : goal.returns-clause-pass
returns-clause-pass g c =
    let v = c.args.pass.now.token.me.0 in
    let t : ℕ = c.args.turn in
    let first = step_one _ _ v t c.load.ensures.2.0 _ _ c.requires.aim c.requires.pass.empty c.load.ensures.2.1 in (
      c.load-2.ensures.0 ∙ c.exchange-old.ensures.0 ∙ c.load.ensures.0,
      c.load-2.ensures.1 ∙ c.exchange-old.ensures.1 ∙ c.load.ensures.1,
      finally g.R.TieRule.content v t c.load.ensures.2.0 c.args.new _ _ first _ c.exchange-old.ensures.3 c.load-2.ensures.2,
    )
