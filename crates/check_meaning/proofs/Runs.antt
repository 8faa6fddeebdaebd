-- A block and then the rest, and a block alone.
use Rattle.std.proofs.Common.{◌≡◌, ℕ, zero, suc, ◌+◌, Bool, true, false, if◌then◌else◌, List, [], ◌∷◌, ◌++◌, append-nil, append_assoc, refl, sym, ap, ◌∙◌}
use Rattle.std.specs.Prelude.{pos}
use Rattle.session_values.specs.declared.value.Value.{Value}
use Rattle.session_values.specs.declared.value.Value.TheVariants.{Num}
use Rattle.session_values.specs.Dialogue.{Dialogue}
use Rattle.check_meaning.specs.Code.{Code, Finish, Move, Ask, Fork, Loop, Quit}
use Rattle.check_meaning.specs.Dialogue.{Env, with_value, value_of, holds, Place, Outcome, Calls, Answers, Goes, after, then_do, pass, with_reply, turns, run, passed_by, ended, next}
use Rattle.check_meaning.specs.Ahead.{Ahead, passing, goes, turns_then, run_then}

after_after : (ps qs : List Place) (o : Outcome) → after ps (after qs o) ≡ after (ps ++ qs) o
after_after ps qs (Calls rs op) = ap (λ (zs : List Place). Calls zs op) (sym (append_assoc ps qs rs))
after_after ps qs (Answers rs vs) = ap (λ (zs : List Place). Answers zs vs) (sym (append_assoc ps qs rs))
after_after ps qs (Goes rs env left) = ap (λ (zs : List Place). Goes zs env left) (sym (append_assoc ps qs rs))

after_then : (ps : List Place) (o : Outcome) (f : Env → List Value → Outcome) → after ps (then_do o f) ≡ then_do (after ps o) f
after_then ps (Calls qs op) f = refl
after_then ps (Answers qs vs) f = refl
after_then ps (Goes qs env left) f = after_after ps qs (f env left)

then_then : (o : Outcome) (f g : Env → List Value → Outcome) → then_do (then_do o f) g ≡ then_do o (λ e l. then_do (f e l) g)
then_then (Calls qs op) f g = refl
then_then (Answers qs vs) f g = refl
then_then (Goes qs env left) f g = sym (after_then qs (f env left) g)

then_same : (o : Outcome) (f g : Env → List Value → Outcome) → ((e : Env) (l : List Value) → f e l ≡ g e l) → then_do o f ≡ then_do o g
then_same (Calls qs op) f g h = refl
then_same (Answers qs vs) f g h = refl
then_same (Goes qs env left) f g h = ap (after qs) (h env left)

pub after_none : (o : Outcome) → after [] o ≡ o
after_none (Calls rs op) = refl
after_none (Answers rs vs) = refl
after_none (Goes rs env left) = refl

turns_is : (body : (Env → Ahead) → Env → Ahead) (plain : Env → List Value → Outcome) (x : ℕ) → ((k : Env → Ahead) (e : Env) (l : List Value) → body k e l ≡ then_do (plain e l) k)
    → (n i : ℕ) (k : Env → Ahead) (env : Env) (left : List Value) → turns_then body x n i k env left ≡ then_do (turns plain x n i env left) k
turns_is body plain x h zero i k env left = sym (after_none (k env left))
turns_is body plain x h (suc n) i k env left =
    let at = with_value env x (Num (pos i)) in
    h (turns_then body x n (i + 1) k) at left
    ∙ then_same (plain at left) (turns_then body x n (i + 1) k) (λ e l. then_do (turns plain x n (i + 1) e l) k) (λ e l. turns_is body plain x h n (i + 1) k e l)
    ∙ sym (then_then (plain at left) (turns plain x n (i + 1)) k)

pub run_is : (code : Code) (k : Env → Ahead) (env : Env) (left : List Value) → run_then code k env left ≡ then_do (run code env left) k
run_is Finish k env left = sym (after_none (k env left))
run_is (Move x e rest) k env left = run_is rest k (with_value env x (value_of e env)) left
run_is (Ask a p x c rest) k env [] = refl
run_is (Ask a p x c rest) k env (v ∷ left) =
    let at : List Place = record { point = p; env = with_reply x v env; replied = true } ∷ [] in
    ap (after at) (run_is rest k (with_reply x v env) left) ∙ after_then at (run rest (with_reply x v env) left) k
run_is (Fork at p q test a b rest) k env left = go (holds test env) (λ l. run_is a (run_then rest k) env l) (λ l. run_is b (run_then rest k) env l) (λ e l. run_is rest k e l)
  where
    side : (r : ℕ) (c : Code) → ((l : List Value) → run_then c (run_then rest k) env l ≡ then_do (run c env l) (run_then rest k)) → ((e : Env) (l : List Value) → run_then rest k e l ≡ then_do (run rest e l) k)
        → pass r env false (run_then c (run_then rest k) env left) ≡ then_do (then_do (pass r env false (run c env left)) (run rest)) k
    side r c h t =
        let here : List Place = record { point = r; env = env; replied = false } ∷ [] in
        ap (after here) (h left) ∙ after_then here (run c env left) (run_then rest k) ∙ then_same (after here (run c env left)) (run_then rest k) (λ e l. then_do (run rest e l) k) t ∙ sym (then_then (after here (run c env left)) (run rest) k)

    go : (r : Bool) → ((l : List Value) → run_then a (run_then rest k) env l ≡ then_do (run a env l) (run_then rest k)) → ((l : List Value) → run_then b (run_then rest k) env l ≡ then_do (run b env l) (run_then rest k))
        → ((e : Env) (l : List Value) → run_then rest k e l ≡ then_do (run rest e l) k)
        → (if r then passing p env false (run_then a (run_then rest k) env) else passing q env false (run_then b (run_then rest k) env)) left ≡ then_do (then_do (if r then pass p env false (run a env left) else pass q env false (run b env left)) (run rest)) k
    go true ha hb t = side p a ha t
    go false ha hb t = side q b hb t
run_is (Loop at p n x body rest) k env left =
    let to : Env → Ahead = λ e. passing p e false (run_then rest k e) in
    turns_is (run_then body) (run body) x (λ j e l. run_is body j e l) n 0 to env left
    ∙ then_same (turns (run body) x n 0 env left) to (λ e l. then_do (pass p e false (run rest e l)) k) (λ e l. ap (pass p e false) (run_is rest k e l) ∙ after_then (record { point = p; env = e; replied = false } ∷ []) (run rest e l) k)
    ∙ sym (then_then (turns (run body) x n 0 env left) (λ e l. pass p e false (run rest e l)) k)
run_is (Quit es rest) k env left = refl

then_goes : (o : Outcome) → then_do o goes ≡ o
then_goes (Calls qs op) = refl
then_goes (Answers qs vs) = refl
then_goes (Goes qs env left) = ap (λ (zs : List Place). Goes zs env left) (append-nil qs)

pub run_whole : (code : Code) (env : Env) (left : List Value) → run_then code goes env left ≡ run code env left
run_whole code env left = run_is code goes env left ∙ then_goes (run code env left)

pub next_whole : (code : Code) (env : Env) → ◌≡◌ {A = Dialogue} (λ rs. ended (run_then code goes env rs)) (next code env)
next_whole code env = λ i rs. ended (run_whole code env rs i)

pub run_goes : (code : Code) (env : Env) → run_then code goes env ≡ run code env
run_goes code env = λ i rs. run_whole code env rs i

pub passed_after : (ps : List Place) (o : Outcome) → passed_by (after ps o) ≡ ps ++ passed_by o
passed_after ps (Calls qs op) = refl
passed_after ps (Answers qs vs) = refl
passed_after ps (Goes qs env left) = refl

pub ended_after : (ps : List Place) (o : Outcome) → ended (after ps o) ≡ ended o
ended_after ps (Calls qs op) = refl
ended_after ps (Answers qs vs) = refl
ended_after ps (Goes qs env left) = refl

-- points that are passed don't change what comes next
pub ended_passing : (p : ℕ) (env : Env) (replied : Bool) (o : Ahead) → ◌≡◌ {A = Dialogue} (λ rs. ended (passing p env replied o rs)) (λ rs. ended (o rs))
ended_passing p env replied o = λ i rs. ended_after (record { point = p; env = env; replied = replied } ∷ []) (o rs) i
