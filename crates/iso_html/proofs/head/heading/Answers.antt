use Rattle.std.proofs.Common.{List, ℕ, Ok, [], ◌∷◌, codes, ap}
use Rattle.iso_html.specs.Heads.{size_text}
use Rattle.iso_junit.specs.Texts.{joined}
use Rattle.iso_tap.proofs.PrinterLemmas.{prints_as, prints_cut, prints_stopped, prints_then}
use Rattle.iso_html.proofs.head.heading.Goals as goal

pub returns-in_err-parts : goal.returns-in_err-parts
returns-in_err-parts g c =
    let word = ap (λ (w : List ℕ). joined (codes "</style>\n</head>\n<body>\n<main>\n<h1>" ∷ w ∷ codes ": " ∷ [])) c.ok_sign.ensures in
    prints_stopped (codes "</h1>\n") _ c.from_residual.ensures.0 (prints_cut (size_text c.args.counts) _ _ (prints_as c.in_err-parts.ensures _ word))

pub returns-in_err-size : goal.returns-in_err-size
returns-in_err-size g c =
    let word = ap (λ (w : List ℕ). joined (codes "</style>\n</head>\n<body>\n<main>\n<h1>" ∷ w ∷ codes ": " ∷ [])) c.ok_sign.ensures in
    prints_stopped (codes "</h1>\n") _ c.from_residual-in_err-size.ensures.0
    (prints_then _ (prints_as {r = Ok tt} c.in_ok-parts.ensures _ word) c.in_err-size.ensures)

pub returns : goal.returns
returns g c =
    let word = ap (λ (w : List ℕ). joined (codes "</style>\n</head>\n<body>\n<main>\n<h1>" ∷ w ∷ codes ": " ∷ [])) c.ok_sign.ensures in
    prints_then _ (prints_then (Ok tt) (prints_as {r = Ok tt} c.in_ok-parts.ensures _ word) c.in_ok-size.ensures) c.bytes.ensures
