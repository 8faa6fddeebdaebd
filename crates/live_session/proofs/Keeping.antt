-- What a session keeps, whatever a line is answered.
use Rattle.std.proofs.Common.{◌≡◌, ℕ, ◌≤◌, List, [], length, map, refl, sym, ◌∙◌, ap, subst, arith, append-nil}
use Rattle.std.proofs.lemmas.List.{length-map}
use Rattle.session_values.specs.Limits.{max_variables}
use Rattle.session_values.specs.Tables.{Tables, kind_of}
use Rattle.session_values.specs.declared.kind.TableKind.{TableKind}
use Rattle.handler_check.specs.File.{File}
use Rattle.handler_check.specs.Resolved.{shape_of}
use Rattle.text_lines.specs.Rows.{Row}
use Rattle.text_lines.specs.Text.{Text}
use Rattle.request_files.specs.Requests.{AreKnown, request_of}
use Rattle.request_files.proofs.RowLemmas.{known_kept}
use Rattle.shard_tables.specs.declared.part.Part.{Part}
use Rattle.live_session.specs.declared.answers.Answered.{Answered}
use Rattle.live_session.specs.declared.answers.Answered.TheVariants as answered
use Rattle.live_session.specs.Accepting.{IsTurnedAway}
use Rattle.live_session.specs.Answers.{IsAnswered, RowAnswered}
use Rattle.live_session.specs.Held.{AreAdds, container_in, held}
use Rattle.live_session.specs.Live.{IsKept, IsLive, LiveView, program_in}

pub known_now : (v : LiveView) → IsLive v → AreKnown v.names v.file
known_now v live = known_kept v.first_names v.names v.file live.begins live.known

-- names, tables and factors that are as they were leave all as it was
pub still : (v : LiveView) (names : List Text) (ts : Tables) (fs : List ℕ) → names ≡ v.names → ts ≡ v.tables → fs ≡ v.factors → record v { names = names; tables = ts; factors = fs } ≡ v
still v names ts fs e d k = λ i. record v { names = e i; tables = d i; factors = k i }

kinds_long : (ps qs : List Part) → map kind_of (held qs) ≡ map kind_of (held ps) → length qs ≡ length ps
kinds_long ps qs e =
    sym (length-map qs container_in) ∙ sym (length-map (held qs) kind_of) ∙ ap (λ (ks : List TableKind). length ks) e
    ∙ length-map (held ps) kind_of ∙ length-map ps container_in

module _ (f : File) (most : ℕ) (adds : List (List ℕ)) (ps qs : List Part) (room capacity : ℕ) (k : IsKept f most adds ps room) (same : capacity ≡ room) where
  -- tables of the same kinds
  pub kept_kinds : map kind_of (held qs) ≡ shape_of f → IsKept f most adds qs capacity
  kept_kinds e = record {
    kinds = e;
    adds_are = subst (λ (n : ℕ). AreAdds f n adds) (sym (kinds_long ps qs (e ∙ sym k.kinds))) k.adds_are;
    args = subst (λ (n : ℕ). max_variables ≤ n) (sym same) k.args;
    most_few = k.most_few;
  }

  -- tables that hold what they held
  pub kept_held : held qs ≡ held ps → IsKept f most adds qs capacity
  kept_held e = kept_kinds (ap (map kind_of) e ∙ k.kinds)

-- why a row wasn't accepted is what it is answered
pub declined : (v w : LiveView) (line : Text) (r : Row) (a : Answered) → w ≡ v → IsTurnedAway (program_in v) v.tickets v.names v.most_names r a → RowAnswered v line r a [] w
unfolding request_of
declined v w line r answered.Served e h = absurd h
declined v w line r answered.Nothing e h = absurd h
declined v w line r (answered.Refused why) e h = ((e, refl), h)
declined v w line r answered.TooManyNames e h = ((e, refl), h.0, h.1)
declined v w line r (answered.Delayed u) e h = ((e, refl), h.0, h.1)
declined v w line r answered.NoNumber e h = ((e, refl), h.0, h.1, h.2)
declined v w line r answered.NoMemory e h = ((e, refl), h.0, h.1)

-- nothing was written
pub wrote_none : (out : Text) (P : Text → Type 0) → P [] → IsAnswered out out P
wrote_none out P p = ([], sym (append-nil out), omega arith, p)
