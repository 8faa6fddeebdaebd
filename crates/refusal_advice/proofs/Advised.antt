-- What is told of a place is what is advised there.
use Rattle.std.proofs.Common.{◌≡◌, ℕ, List, [], map, string_bytes, Option, Some, None, Result, Ok, Err, IfOk, String, Global, subst, inl, inr}
use Rattle.std.specs.Prelude.{Vec}
use Rattle.refusal_advice.specs.Advice.{IsAdvice, IsStopAdvice}
use Rattle.refusal_advice.specs.Following.{IsStop, IsStopAt}
use Rattle.refusal_advice.specs.Token.{IsTokenAt}
use Rattle.refusal_advice.specs.declared.stop.Stop.{Stop}

pub advised : {E Z : Type 0} (source : List ℕ) (at : ℕ) (s : Stop) (token : List ℕ) (r : Result (Vec (String Global) Z) E) → IsStop source at s → IsTokenAt source at token → IfOk r (λ lines. IsStopAdvice s token (map string_bytes lines.items)) → IfOk r (λ lines. IsAdvice source at (map string_bytes lines.items))
advised source at s token (Ok lines) stop is e = inl (record {
  before = stop.before;
  word = s.word;
  token = token;
  wanted = s.wanted.items;
  stands = stop.stands;
  token_is = is;
  exact = stop.wanted;
  begins = e;
})
advised source at s token (Err x) stop is e = tt

pub unadvised : (source : List ℕ) (at : ℕ) (lines : List (List ℕ)) → IsStopAt source at None → lines ≡ [] → IsAdvice source at lines
unadvised source at lines none e = inr (none, e)

pub stopped : (source : List ℕ) (at : ℕ) (o : Option Stop) (s : Stop) → IsStopAt source at o → o ≡ Some s → IsStop source at s
stopped source at o s h e = let P : Option Stop → Type 0 = IsStopAt source at in subst P e h

pub unstopped : (source : List ℕ) (at : ℕ) (o : Option Stop) → IsStopAt source at o → o ≡ None → IsStopAt source at None
unstopped source at o h e = let P : Option Stop → Type 0 = IsStopAt source at in subst P e h
