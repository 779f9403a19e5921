-- Field after field in memory. Assumes nothing.
use Rattle.std.proofs.Common.{◌≡◌, ℕ, ◌+◌, ◌<◌, ◌≤◌, List, [], ◌∷◌, ◌++◌, length, get_or, take, drop, sym, refl, ap, ◌∙◌, arith}
use Rattle.std.proofs.lemmas.List.{append_assoc, append-nil, length-append, take_more, take-append-drop, take_at, drop-drop, drop_at, take_all}
use Rattle.events.specs.declared.event.Event.{Event}
use Rattle.events.specs.declared.event.Event.TheVariants.{HandIn}
use Rattle.events.specs.Writing.{event_bytes, events_bytes, table_bytes, stream_of}

-- what a read past the end would give
abbrev pub no_event : Event
no_event = HandIn (record { port = 0; dispatcher = 0; reading = 0; mask = 0; home = 0; berth = 0; action = 0; vessel = 0 })

pub events_append : (xs ys : List Event) → events_bytes (xs ++ ys) ≡ events_bytes xs ++ events_bytes ys
events_append [] ys = refl
events_append (x ∷ xs) ys = ap (λ bs. event_bytes x ++ bs) (events_append xs ys) ∙ sym (append_assoc (event_bytes x) (events_bytes xs) (events_bytes ys))

module _ (es : List Event) (i : ℕ) where
  pub events_more : i < length es → events_bytes (take (i + 1) es) ≡ events_bytes (take i es) ++ event_bytes (get_or es i no_event)
  events_more lt = ap events_bytes (take_more es i no_event lt) ∙ events_append (take i es) (get_or es i no_event ∷ []) ∙ ap (λ bs. events_bytes (take i es) ++ bs) (append-nil (event_bytes (get_or es i no_event)))

  pub length_part : length (events_bytes (take i es)) ≤ length (events_bytes es)
  length_part =
      let e = ap length (ap events_bytes (sym (take-append-drop i es)) ∙ events_append (take i es) (drop i es)) in
      omega (arith, e, length-append (events_bytes (take i es)) (events_bytes (drop i es)))

-- the same behind a table
module _ (masks : List ℕ) (es : List Event) (i : ℕ) where
  pub stream_more : i < length es → stream_of masks (take (i + 1) es) ≡ stream_of masks (take i es) ++ event_bytes (get_or es i no_event)
  stream_more lt = ap (λ bs. table_bytes masks ++ bs) (events_more es i lt) ∙ sym (append_assoc (table_bytes masks) (events_bytes (take i es)) (event_bytes (get_or es i no_event)))

  pub stream_length_more : i < length es → length (stream_of masks (take (i + 1) es)) ≡ length (stream_of masks (take i es)) + length (event_bytes (get_or es i no_event))
  stream_length_more lt = ap length (stream_more lt) ∙ length-append (stream_of masks (take i es)) (event_bytes (get_or es i no_event))

  pub stream_part : length (stream_of masks (take i es)) ≤ length (stream_of masks es)
  stream_part = omega (arith, length-append (table_bytes masks) (events_bytes (take i es)), length-append (table_bytes masks) (events_bytes es), length_part es i)

  pub stream_all : length es ≤ i → stream_of masks (take i es) ≡ stream_of masks es
  stream_all le = ap (stream_of masks) (take_all i es le)

-- one field more behind those that are written
pub next_put : (start done field out last : List ℕ) (at end : ℕ) → at ≡ length done → out ≡ done ++ drop at start → end ≡ at + length field → last ≡ take at out ++ (field ++ drop end out) → last ≡ (done ++ field) ++ drop end start
next_put start done field out last at end a o e l =
    let before : take at out ≡ done = ap (take at) o ∙ take_at done (drop at start) at (sym a) in
    let behind : drop end out ≡ drop end start =
    ap (λ m. drop m out) e
    ∙ sym (drop-drop (length field) at out)
    ∙ ap (drop (length field)) (ap (drop at) o ∙ drop_at done (drop at start) at (sym a))
    ∙ drop-drop (length field) at start
    ∙ ap (λ m. drop m start) (sym e) in
    l ∙ ap (λ w. w ++ (field ++ drop end out)) before ∙ ap (λ w. done ++ (field ++ w)) behind ∙ sym (append_assoc done field (drop end start))
