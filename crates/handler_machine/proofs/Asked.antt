-- Runs on what answers operations.
use Rattle.std.proofs.Common.{◌≡◌, ℕ, Bool, false, List, [], ◌∷◌, ◌++◌, Result, Ok, Err, MatchResult, OnErr, IfOk, append-nil, refl, sym, ap, ◌∙◌, subst}
use Rattle.session_values.specs.declared.kind.TableKind.{TableKind}
use Rattle.session_values.specs.declared.op.Op.{Op}
use Rattle.session_values.specs.declared.reply.Reply.{Reply}
use Rattle.session_values.specs.declared.value.Value.{Value}
use Rattle.session_values.specs.Dialogue.{Calls, Answers, Dialogue, Entry, replies}
use Rattle.session_values.specs.Tables.{Fits}
use Rattle.session_values.proofs.EntriesFacts.{follows_more}
use Rattle.check_meaning.specs.Ahead.{Ahead, asked, passing}
use Rattle.check_meaning.specs.Dialogue.{Env, ended}
use Rattle.check_meaning.specs.Keeps.{CallsFit}
use Rattle.check_meaning.proofs.Runs.{ended_passing}
use Rattle.handler_machine.specs.Asking.{Steps, Runs, Breaks, Stays, Asked, Stopped}
use Rattle.handler_machine.specs.Leading.{Ends}

pub match_map : {X E : Type 0} (r : Result X E) (P Q : X → Type 0) (A B : E → Type 0) → ((x : X) → P x → Q x) → ((e : E) → A e → B e) → MatchResult r P A → MatchResult r Q B
match_map (Ok x) P Q A B f h m = f x m
match_map (Err e) P Q A B f h m = h e m

pub replies_more : (es : List Entry) (e : Entry) (more : List Value) → replies (es ++ e ∷ []) ++ more ≡ replies es ++ (e.reply ∷ more)
replies_more [] e more = refl
replies_more (x ∷ es) e more = ap (λ (vs : List Value). x.reply ∷ vs) (replies_more es e more)

module _ {H : Type 0} (step : H → Op → Value → H → Type 0) where
  steps_more : (es : List Entry) (start mid new : H) (e : Entry) → Steps step start es mid → step mid e.op e.reply new → Steps step start (es ++ e ∷ []) new
  steps_more [] start mid new e s h = (new, subst (λ (z : H). step z e.op e.reply new) s h, refl)
  steps_more (x ∷ es) start mid new e s h = (s.0, s.1, steps_more es s.0 mid new e s.2 h)

  module _ (shape : H → List TableKind) (sure : H → Bool) (whole : Ahead) (start : H) where
    called_now : (old : H) (op : Op) (next : Value → Ahead) (a : Asked step shape sure whole start old (asked op next)) → ended (whole (replies a.entries)) ≡ Calls op
    called_now old op next a = ap (λ (vs : List Value). ended (whole vs)) (sym (append-nil (replies a.entries))) ∙ a.is_ahead []

    pub asked_fits : (old : H) (op : Op) (next : Value → Ahead) → Asked step shape sure whole start old (asked op next) → Fits (shape old) op
    asked_fits old op next a = subst (λ (z : List TableKind). Fits z op) (sym a.stays.same_shape) (a.fits [] op refl)

    stays_more : (old new : H) → Stays shape sure start old → Stays shape sure old new → Stays shape sure start new
    stays_more old new a b = record { same_shape = b.same_shape ∙ a.same_shape; same_sure = b.same_sure ∙ a.same_sure }

    pub asked_more : (old new : H) (op : Op) (next : Value → Ahead) (v : Value) → Asked step shape sure whole start old (asked op next) → Stays shape sure old new → step old op v new → Asked step shape sure whole start new (next v)
    asked_more old new op next v a stays h =
        let e : Entry = record { op = op; reply = v } in
        record {
          entries = a.entries ++ e ∷ [];
          steps = steps_more a.entries start old new e a.steps h;
          follows = follows_more (λ rs. ended (whole rs)) a.entries e a.follows (called_now old op next a);
          is_ahead = λ more. ap (λ (vs : List Value). ended (whole vs)) (replies_more a.entries e more) ∙ a.is_ahead (v ∷ more);
          fits = λ rs o h. a.fits (v ∷ rs) o h;
          stays = stays_more old new a.stays stays;
        }

    pub asked_passed : (now : H) (p : ℕ) (env : Env) (replied : Bool) (next : Ahead) → Asked step shape sure whole start now (passing p env replied next) → Asked step shape sure whole start now next
    asked_passed now p env replied next a = record {
      entries = a.entries;
      steps = a.steps;
      follows = a.follows;
      is_ahead = λ more. a.is_ahead more ∙ ap (λ (d : Dialogue). d more) (ended_passing p env replied next);
      fits = subst (CallsFit (shape start)) (ended_passing p env replied next) a.fits;
      stays = a.stays;
    }

    pub asked_stop : (old new : H) (ahead : Ahead) → Asked step shape sure whole start old ahead → Stays shape sure old new → new ≡ old → sure old ≡ false → Stopped step shape sure whole start new
    asked_stop old new ahead a stays same unsure = record {
      breaks = record {
        entries = a.entries;
        steps = subst (Steps step start a.entries) (sym same) a.steps;
        follows = a.follows;
      };
      unsure = sym a.stays.same_sure ∙ unsure;
      stays = stays_more old new a.stays stays;
    }

    pub asked_first : CallsFit (shape start) (λ rs. ended (whole rs)) → Asked step shape sure whole start start whole
    asked_first fits = record { entries = []; steps = refl; follows = tt; is_ahead = λ more. refl; fits = fits; stays = record { same_shape = refl; same_sure = refl } }

    asked_runs : (now : H) (ahead : Ahead) (r : Reply) → Asked step shape sure whole start now ahead → ended (ahead []) ≡ Answers r → Runs step (λ rs. ended (whole rs)) start now r
    asked_runs now ahead r a is = record {
      entries = a.entries;
      steps = a.steps;
      follows = a.follows;
      answers = ap (λ (vs : List Value). ended (whole vs)) (sym (append-nil (replies a.entries))) ∙ a.is_ahead [] ∙ is;
    }

    module _ {E : Type 0} (now : H) (r : Result Reply E) (h : Ends (Asked step shape sure whole start now) (Stopped step shape sure whole start now) r) where
      pub whole_runs : IfOk r (λ reply. Runs step (λ rs. ended (whole rs)) start now reply)
      whole_runs = elim r as (λ (z : Result Reply E). Ends (Asked step shape sure whole start now) (Stopped step shape sure whole start now) z → IfOk z (λ reply. Runs step (λ rs. ended (whole rs)) start now reply))
          [ Ok x ↦ (λ m. asked_runs now m.0 x m.1 m.2.answers) | Err e ↦ (λ m. tt) ] h

      pub whole_breaks : OnErr r (Breaks step (λ rs. ended (whole rs)) start now)
      whole_breaks = elim r as (λ (z : Result Reply E). Ends (Asked step shape sure whole start now) (Stopped step shape sure whole start now) z → OnErr z (Breaks step (λ rs. ended (whole rs)) start now))
          [ Ok x ↦ (λ m. tt) | Err e ↦ (λ m. m.breaks) ] h

      pub whole_unsure : OnErr r (sure start ≡ false)
      whole_unsure = elim r as (λ (z : Result Reply E). Ends (Asked step shape sure whole start now) (Stopped step shape sure whole start now) z → OnErr z (sure start ≡ false))
          [ Ok x ↦ (λ m. tt) | Err e ↦ (λ m. m.unsure) ] h

      pub whole_stays : Stays shape sure start now
      whole_stays = elim r as (λ (z : Result Reply E). Ends (Asked step shape sure whole start now) (Stopped step shape sure whole start now) z → Stays shape sure start now)
          [ Ok x ↦ (λ m. m.1.stays) | Err e ↦ (λ m. m.stays) ] h
