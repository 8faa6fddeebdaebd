-- Requests that were served one after another are those of the serial run.
use Rattle.std.proofs.Common.{◌≡◌, ℕ, suc, List, [], ◌∷◌, ◌++◌, length, refl, sym, ◌∙◌, ap, subst, append_assoc}
use Rattle.session_values.specs.declared.reply.Reply.{Reply}
use Rattle.session_values.specs.Serial.{Session, serial_replies, tables_before}
use Rattle.session_values.specs.Tables.{Tables}
use Rattle.session_values.specs.Opening.{Pair, tables_of}
use Rattle.handler_check.specs.File.{File}
use Rattle.handler_check.specs.Resolved.{shape_of}
use Rattle.request_files.specs.declared.request.Request.{Request}
use Rattle.request_files.specs.Session.{request_at, session}
use Rattle.driven_tickets.specs.Alone.{AreAlone}
use Rattle.driven_tickets.proofs.Alone.{all_replies, all_tables}
use Rattle.live_session.specs.Served.{AreServed, IsServed}

-- one request more was served
pub served_push : (f : File) (p : Tables) (rs : List Request) (given : List Reply) (q : Tables) (r : Request) (a : Reply) (after : Tables) → AreServed f p rs given q → IsServed f r q a after → AreServed f p (rs ++ r ∷ []) (given ++ a ∷ []) after
served_push f p [] [] q r a after h s = (after, subst (λ (ts : Tables). IsServed f r ts a after) h s, refl)
served_push f p [] (b ∷ given) q r a after h s = absurd h
served_push f p (x ∷ rs) [] q r a after h s = absurd h
served_push f p (x ∷ rs) (b ∷ given) q r a after h s = (h.0, h.1, served_push f h.0 rs given q r a after h.2 s)

pub served_long : (f : File) (p : Tables) (rs : List Request) (given : List Reply) (q : Tables) → AreServed f p rs given q → length given ≡ length rs
served_long f p [] [] q h = refl
served_long f p [] (b ∷ given) q h = absurd h
served_long f p (x ∷ rs) [] q h = absurd h
served_long f p (x ∷ rs) (b ∷ given) q h = ap suc (served_long f h.0 rs given q h.2)

at_seam : (front : List Request) (r : Request) (back : List Request) → request_at (front ++ r ∷ back) (length front) ≡ r
at_seam [] r back = refl
at_seam (x ∷ front) r back = at_seam front r back

push_long : (front : List Request) (r : Request) → length (front ++ r ∷ []) ≡ suc (length front)
push_long [] r = refl
push_long (x ∷ front) r = ap suc (push_long front r)

module _ (f : File) (opened : List (List Pair)) where
  -- the tickets of a session from some on
  alone_from : (front rs : List Request) (p : Tables) (given : List Reply) (q : Tables) → AreServed f p rs given q → AreAlone (session f opened (front ++ rs)) (length front) p given q
  alone_from front [] p [] q h = h
  alone_from front [] p (b ∷ given) q h = absurd h
  alone_from front (r ∷ rs) p [] q h = absurd h
  alone_from front (r ∷ rs) p (b ∷ given) q h =
      let s : List Request → Session = λ all. session f opened all in
      let is : request_at (front ++ r ∷ rs) (length front) ≡ r = at_seam front r rs in
      let here : IsServed f (request_at (front ++ r ∷ rs) (length front)) p b h.0 = subst (λ (x : Request). IsServed f x p b h.0) (sym is) h.1 in
      let all : (front ++ r ∷ []) ++ rs ≡ front ++ r ∷ rs = append_assoc front (r ∷ []) rs in
      let rest = alone_from (front ++ r ∷ []) rs h.0 given q h.2 in (
        h.0,
        record { answer = here.answer; after = here.tables_are },
        subst (λ (n : ℕ). AreAlone (s (front ++ r ∷ rs)) n h.0 given q) (push_long front r)
            (subst (λ (xs : List Request). AreAlone (s xs) (length (front ++ r ∷ [])) h.0 given q) all rest),
      )

  -- so all of them
  module _ (rs : List Request) (given : List Reply) (q : Tables) (h : AreServed f (tables_of (shape_of f) opened) rs given q) where
    abbrev whole : Session
    whole = session f opened rs

    alone : AreAlone whole 0 whole.opening given q
    alone = alone_from [] rs whole.opening given q h

    pub serial_answers : given ≡ serial_replies whole (length rs)
    serial_answers = all_replies whole given q alone ∙ ap (serial_replies whole) (served_long f whole.opening rs given q h)

    pub serial_tables : q ≡ tables_before whole (length rs)
    serial_tables = all_tables whole given q alone ∙ ap (tables_before whole) (served_long f whole.opening rs given q h)
