-- All pages on the flash under one key are of the node that the key has, on however many pages it stands, after a call that was cut too.
use Prim.Native.Nat.{ℕ, zero, suc, ◌+◌, ◌*◌, ◌-◌, ◌/◌, ◌%◌, ◌<◌, ◌≤◌}
use native.Mathlib.Omega.{arith}
use native.Mathlib.Decide.{ℕ_discrete, dec_lt}
use mathlib.Core.Path.{◌≡◌, refl, sym, ap, subst, ◌∙◌}
use mathlib.Core.Logic.{◌⊎◌, inl, inr}
use mathlib.Core.Bool.{Bool, true, false}
use mathlib.Core.List.{List, [], ◌∷◌}
use mathlib.Core.Option.{Option, none, some}
use lib.Dec.{T}
use lib.ListN.{length, get_or}
use Rattle.base.specs.Each.{Each}
use Rattle.base.specs.Part.{part}
use Rattle.base.proofs.Choice.{true-false}
use Rattle.base.proofs.Parts.{part_at}
use Rattle.page.specs.Frame.{header_size, payload_size, closing_at, page_size, erased}
use Rattle.page.specs.Header.{in_range, node_frame, with_number, header_of}
use Rattle.page.specs.Key.{positions, key_in_noise}
use Rattle.page.specs.Page.{page_bytes, enciphered, payload_of, node_page, cut_page}
use Rattle.page.specs.declared.Frame.{Frame}
use Rattle.std.specs.Prelude.{Some}
use Rattle.page.proofs.FormLaws.{whole_is}
use Rattle.page.proofs.HeaderLaws.{header_read, no_kind}
use Rattle.page.proofs.Pages.{enciphered-length, header_back, payload_back, cut-before}
use Rattle.page.proofs.Ranges.{node_range}
use Rattle.image.specs.Size.{block_size, pages_in_block, size_right}
use Rattle.image.specs.Look.{page_at, form_at}
use Rattle.image.specs.Step.{Step, program, erase, Legal, AllLegal, up_to, whole, play, play_all}
use Rattle.image.proofs.Plays.{play_all_lem}
use Rattle.image.proofs.Step.{cleared, cleared-none, cleared-before, cleared-after, up_to-whole, page-length}
use Rattle.image.proofs.Step.{page-program-up_to, page_program_up_to_other, page_up_to_other, page-erase-up_to}
use Rattle.store.specs.Reply.{Done, is_done}
use Rattle.store.specs.Record.{Record, page_of, live}
use Rattle.store.specs.Outcome.{Outcome, left, left_whole}
use Rattle.store.specs.Format.{noise_size, buffers_right, format_steps, format_of}
use Rattle.store.specs.Find.{new_page, found_at}
use Rattle.store.specs.Gather.{place_on, live_pages, copy_to, copy_step, copy_steps, gather_of}
use Rattle.store.proofs.Fits.{fits_is}
use Rattle.store.proofs.Gathers.{LiveIn, Copying, live-place, copy_is, payload-length, header_range, page-same, copying_next, gather_copying}
use Rattle.store.proofs.LegalSteps.{legal_inside}
use Rattle.store.proofs.Legals.{format_legal}
use Rattle.store.proofs.Outcomes.{read_stepless, gather_outcome, gather-refused}
use Rattle.store.proofs.Verdicts.{done-true, gather_taken_lem}
use Rattle.guarantee.specs.Call.{Given, second_given, bytes_given, write_given, Call, mount, write, read, cut_off, commit, wipe, gather, Event}
use Rattle.guarantee.specs.Book.{Holding, first_book, lowest_marked}
use Rattle.guarantee.specs.Origin.{Origin, plain, cipher, bringer_in, byte_origin, trace_up_to, trace}
use Rattle.guarantee.specs.Machine.{Machine, Node, start, outcome_at, step, Allowed}
use Rattle.guarantee.specs.Statement.{MapHas, UnderKey}
use Rattle.guarantee.specs.Unsettled.{any_block, after_whole, OnSettled, AllOnSettled}
use Rattle.guarantee.specs.Copies.{payload_byte, Names, InPayloads, OneNodeOnFlash, SameNode}
use Rattle.guarantee.proofs.Origins.{erase-origin}
use Rattle.guarantee.proofs.StepBytes.{cut-byte, origin_programmed, origin_unreached, origin_unprogrammed}
use Rattle.guarantee.proofs.StepBytes.{origin-erased, origin_remaining, origin-elsewhere}
use Rattle.guarantee.proofs.NodelessSteps.{byte-payload, byte-cipher, Nodeless, nodeless_byte}
use Rattle.guarantee.proofs.NodelessSteps.{mount_nodeless, cut_off_nodeless, commit_nodeless, wipe_nodeless, format_nodeless}
use Rattle.guarantee.proofs.Givens.{given_taken, given-refused}
use Rattle.guarantee.proofs.Events.{later_noise, or-on}
use Rattle.guarantee.proofs.FormatCall.{format_taken_lem, format_on_settled_lem}
use Rattle.guarantee.proofs.Histories.{History, Permitted, end_of, history, while_on, next, at_end, at_call, standing}
use Rattle.guarantee.proofs.Slips.{taken_free}
use Rattle.guarantee.proofs.BegunPages.{Begun, KeepsBegun, empty_first, none-begun, whole-begun, begun-end}
use Rattle.guarantee.proofs.KeysOnce.{node-noted, one_node_per_key}

-- ---- pages, by the nodes and the noise of a machine
module _ (m : Machine) where
  -- byte j of a page's payload is that of the node that the key of position p and call c has, and so is the page's header
  record Under (page : List ℕ) (j p c : ℕ) : Type 0 where
    position : p < positions
    node : Node
    noted : m.nodes p c ≡ some node
    byte : get_or page (header_size + j) erased ≡ get_or (enciphered (key_in_noise (m.noise c) p) node.bytes) j erased
    names : (f : Frame) → header_of (part page 0 header_size) ≡ Some f → Names f p node

  under_same : (page page' : List ℕ) (j p c : ℕ) → get_or page' (header_size + j) erased ≡ get_or page (header_size + j) erased
      → ((f : Frame) → header_of (part page' 0 header_size) ≡ Some f → header_of (part page 0 header_size) ≡ Some f) → Under page j p c → Under page' j p c
  under_same page page' j p c e h u =
      record { position = u.position; node = u.node; noted = u.noted; byte = e ∙ u.byte; names = λ f q. u.names f (h f q) }

  -- every enciphered byte of an image
  abbrev Known : List ℕ → (ℕ → Origin) → Type 0
  Known img o = (g j p c : ℕ) → j < payload_size → o (payload_byte g j) ≡ cipher p c → Under (page_at img g) j p c

  module _ (of : List ℕ → ℕ → Origin) where
    -- ---- what the first k bytes of a step put there
    abbrev Puts : ℕ → Step → Type 0
    Puts k (program g page) = (j p c : ℕ) → j < payload_size → header_size + j < k → of page (header_size + j) ≡ cipher p c → Under page j p c
    Puts k (erase b) = Unit {0}

    -- ---- one step, cut anywhere
    program-known : (k g : ℕ) (page img : List ℕ) (o : ℕ → Origin) (u : ℕ → Bool) → Legal img (program g page) → u (g / pages_in_block) ≡ false
        → Begun img o u → Puts k (program g page) → Known img o → Known (up_to k (program g page) img) (trace_up_to of k (program g page) o)
    program-known k g page img o u legal settled begun puts known h j p c l e = elim (ℕ_discrete h g) [
      | yes z ↦ here z (dec_lt (header_size + j) k)
      | no z ↦
          let same = page_program_up_to_other k g page img legal.0 h z in
          rw same (known h j p c l (sym (origin_unprogrammed of k o (payload_byte h j) g page (λ q. z (omega arith))) ∙ e))
    ]
      where
        here : h ≡ g → Dec (header_size + j < k) → Under (page_at (up_to k (program g page) img) h) j p c
        here z (yes b) =
            let at : payload_byte h j % page_size ≡ header_size + j = omega arith in
            let traced = origin_programmed of k o (payload_byte h j) g page (omega arith) (omega arith) in
            let put : of page (header_size + j) ≡ cipher p c = ap (of page) (sym at) ∙ sym traced ∙ e in
            let same : page_at (up_to k (program g page) img) h ≡ cut_page k page = rw z (page-program-up_to k g page img legal.0) in
            let head : part (cut_page k page) 0 header_size ≡ part page 0 header_size = cut-before k page legal.0.1 0 header_size (omega arith) (omega arith) in
            let byte = cut-byte k page legal.0.1 (header_size + j) erased b (omega arith) in
            rw same (under_same page (cut_page k page) j p c byte (λ f q. rw (← head) q) (puts j p c l b put))
        here z (no b) =
            let same = origin_unreached of k o (payload_byte h j) g page (omega arith) (omega arith) in
            let here : payload_byte h j / block_size ≡ g / pages_in_block = omega arith in
            let first : payload_byte h j / page_size ≡ g = omega arith in
            absurd (begun (payload_byte h j) p c (sym same ∙ e) (ap u here ∙ settled)
            (ap (λ (i : ℕ). get_or img (i * page_size) erased) first ∙ empty_first img g legal.0.0 legal.1))

    -- where a byte of a header is erased, its first one is
    headed : (n : ℕ) (page : List ℕ) → length page ≡ page_size → (f : Frame) → header_of (part (cleared n page) 0 header_size) ≡ Some f
        → header_of (part page 0 header_size) ≡ Some f
    headed zero page long f q = rw (← cleared-none page) q
    headed (suc n) page long f q =
        let at = part_at (cleared (suc n) page) 0 header_size 0 0 (omega arith) in
        let first : get_or (part (cleared (suc n) page) 0 header_size) 0 0 ≡ erased = at ∙ cleared-before (suc n) page 0 0 (omega arith) (omega arith) in
        let none = no_kind (part (cleared (suc n) page) 0 header_size) (rw first) in
        absurd (let y : ◌≡◌ {A = ℕ} 0 1 = cc in omega arith)

    erase-known : (k b : ℕ) (img : List ℕ) (o : ℕ → Origin) → Legal img (erase b) → Known img o → Known (up_to k (erase b) img) (trace_up_to of k (erase b) o)
    erase-known k b img o legal known h j p c l e = elim (ℕ_discrete (h / pages_in_block) b) [
      | yes z ↦ here z (dec_lt (payload_byte h j % block_size) k)
      | no z ↦
          let same = page_up_to_other k (erase b) img legal h (λ q. z (sym q)) in
          rw same (known h j p c l (sym (origin-elsewhere of k o (payload_byte h j) b (λ q. z (omega arith))) ∙ e))
    ]
      where
        here : h / pages_in_block ≡ b → Dec (payload_byte h j % block_size < k) → Under (page_at (up_to k (erase b) img) h) j p c
        here z (yes y) =
            let away = origin-erased of k o (payload_byte h j) b (omega arith) y in
            absurd (let y : ◌≡◌ {A = ℕ} 0 1 = cc in omega arith)
        here z (no y) =
            let i = h % pages_in_block in
            let n = k - i * page_size in
            let at : b * pages_in_block + i ≡ h = omega arith in
            let was : o (payload_byte h j) ≡ cipher p c = sym (origin_remaining of k o (payload_byte h j) b (omega arith) (omega arith)) ∙ e in
            let long : length (page_at img h) ≡ page_size = page-length img h (omega arith) in
            let page = page-erase-up_to k b i img legal (omega arith) in
            let same : page_at (up_to k (erase b) img) h ≡ cleared n (page_at img h) = rw at at page in
            let byte = cleared-after n (page_at img h) (header_size + j) erased (omega arith) (omega arith) in
            rw same (under_same (page_at img h) (cleared n (page_at img h)) j p c byte (headed n (page_at img h) long) (known h j p c l was))

    step-known : (k : ℕ) (d : Step) (img : List ℕ) (o : ℕ → Origin) (u : ℕ → Bool) → Legal img d → OnSettled u d → Begun img o u → Puts k d → Known img o
        → Known (up_to k d img) (trace_up_to of k d o)
    step-known k (program g page) img o u legal on begun puts known = program-known k g page img o u legal on begun puts known
    step-known k (erase b) img o u legal on begun puts known = erase-known k b img o legal known

    -- ---- steps in a row, at a cut
    abbrev PutsAll : ℕ → ℕ → List Step → Type 0
    PutsAll n k [] = Unit {0}
    PutsAll zero k (d ∷ ds) = Puts k d
    PutsAll (suc n) k (d ∷ ds) = Puts block_size d × PutsAll n k ds

    play-known : KeepsBegun of → (n k : ℕ) (ds : List Step) (img : List ℕ) (o : ℕ → Origin) (u : ℕ → Bool) → AllLegal img ds → AllOnSettled u ds → Begun img o u
        → PutsAll n k ds → Known img o → Known (play n k ds img) (trace of n k ds o)
    unfolding play trace
    play-known keeps n k [] img o u legal on begun puts known = known
    play-known keeps zero k (d ∷ ds) img o u legal on begun puts known = step-known k d img o u legal.0 on.0 begun puts known
    play-known keeps (suc n) k (d ∷ ds) img o u legal on begun puts known =
        let o' = trace_up_to of block_size d o in
        let same = up_to-whole block_size (length img) d img (legal_inside img d legal.0) (omega arith) in
        play-known keeps n k ds (whole d img) o' (after_whole d u) legal.1 on.1 (keeps d img o u legal.0 on.0 begun) puts.1
        (subst (λ (i : List ℕ). Known i o') same (step-known block_size d img o u legal.0 on.0 begun puts.0 known))

    -- where it is so at every byte
    abbrev AlwaysPuts : Step → Type 0
    AlwaysPuts d = (k : ℕ) → Puts k d

    each_puts : (n k : ℕ) (ds : List Step) → Each AlwaysPuts ds → PutsAll n k ds
    each_puts n k [] p = tt
    each_puts zero k (d ∷ ds) p = p.0 k
    each_puts (suc n) k (d ∷ ds) p = (p.0 block_size, each_puts n k ds p.1)

  module _ (now new : ℕ → ℕ) where
    abbrev of : List ℕ → ℕ → Origin
    of = byte_origin now new

    -- ---- steps without an N page
    nodeless_puts : (n k : ℕ) (ds : List Step) → Each Nodeless ds → PutsAll of n k ds
    nodeless_puts n k ds h = each_puts of n k ds (all ds h)
      where
        one : (d : Step) → Nodeless d → AlwaysPuts of d
        one (program g page) h k = λ j p c l b e. absurd (nodeless_byte now new page (header_size + j) p c h e)
        one (erase b) h k = tt

        all : (ds : List Step) → Each Nodeless ds → Each (AlwaysPuts of) ds
        all [] h = tt
        all (d ∷ ds) h = (one d h.0, all ds h.1)

    -- ---- an N page
    module _ (f : Frame) (sealed : List ℕ) (ranges : in_range f ≡ true) (long : length sealed ≡ payload_size) where
      sealed_byte : (j : ℕ) → j < payload_size → get_or (page_bytes f sealed) (header_size + j) erased ≡ get_or sealed j erased
      unfolding payload_of
      sealed_byte j l =
          sym (part_at (page_bytes f sealed) header_size payload_size j erased l) ∙ ap (λ (xs : List ℕ). get_or xs j erased) (payload_back f sealed long)

      own_header : (h : Frame) → header_of (part (page_bytes f sealed) 0 header_size) ≡ Some h → h ≡ f
      own_header h e =
          let q : Some f ≡ Some h = sym (header_read f ranges) ∙ ap header_of (sym (header_back f sealed long)) ∙ e in
          let z : f ≡ h = cc in
          sym z

      -- what it takes that its bytes are of the node of its key
      record Sealed (j : ℕ) : Type 0 where
        node : Node
        position : f.key < positions
        noted : m.nodes f.key (now f.key) ≡ some node
        byte : get_or sealed j erased ≡ get_or (enciphered (key_in_noise (m.noise (now f.key)) f.key) node.bytes) j erased
        names : Names f f.key node

      node_puts : (k : ℕ) → ((j : ℕ) → j < payload_size → header_size + j < k → Sealed j) → (g : ℕ) → Puts of k (program g (page_bytes f sealed))
      node_puts k has g j p c l b e =
          let d = byte-cipher now new (header_size + j) p c (page_bytes f sealed) e in
          let own = own_header d.0 d.1 in
          let key : p ≡ f.key = d.3 ∙ ap (λ (h : Frame). h.key) own in
          let call : c ≡ now f.key = d.4 ∙ ap (λ (h : Frame). now h.key) own in
          let v = has j l b in
          rw (key, call)
          (record {
            position = v.position;
            node = v.node;
            noted = v.noted;
            byte = sealed_byte j l ∙ v.byte;
            names = λ h q. subst (λ (h : Frame). Names h f.key v.node) (sym (own_header h q)) v.names;
          })

    -- ---- the copy of a page whose bytes are all of the node of its key
    module _ (page : List ℕ) (f : Frame) (headed : header_of (part page 0 header_size) ≡ Some f)
        (known : (j : ℕ) → j < payload_size → Under page j f.key (now f.key))
        (s : ℕ) (ranges : in_range (with_number s f) ≡ true) (long : length (payload_of page) ≡ payload_size) where
      copy_puts : (g : ℕ) → AlwaysPuts of (program g (page_bytes (with_number s f) (payload_of page)))
      unfolding payload_of
      copy_puts g k = node_puts (with_number s f) (payload_of page) ranges long k (λ j l b.
          let u = known j l in
          let n = u.names f headed in
          record {
            node = u.node;
            position = u.position;
            noted = u.noted;
            byte = part_at page header_size payload_size j erased l ∙ u.byte;
            names = record { kind = n.kind; file = n.file; offset = n.offset; key = n.key; second = n.second };
          }) g

    -- ---- the copies of a gather, from the image before it
    module _ (block : ℕ) (first : List ℕ) where
      -- page g of that image: all its payload is of the node of the key in its header
      abbrev Source : ℕ → Type 0
      Source g =
          (f : Frame) → header_of (part (page_at first g) 0 header_size) ≡ Some f → (j : ℕ) → j < payload_size → Under (page_at first g) j f.key (now f.key)

      -- the pages of the block are as they were
      abbrev SameBlock : List ℕ → Type 0
      SameBlock img = (h : ℕ) → h / pages_in_block ≡ block → page_at img h ≡ page_at first h

      one_put : (g : ℕ) (gs img : List ℕ) (r : Record) → Copying block (g ∷ gs) img r → SameBlock img → Source g → AlwaysPuts of (copy_step block img r g)
      unfolding form_at
      one_put g gs img r c same source =
          let f = c.lives.0.header in
          let here = same g c.lives.0.in_block in
          let headed = (whole_is (page_at img g) f c.lives.0.whole).0 in
          let known : (j : ℕ) → j < payload_size → Under (page_at img g) j f.key (now f.key) = rw here (source f (rw here at headed)) in
          rw (copy_is block g gs img r c)
          (copy_puts (page_at img g) f headed known r.numbers.sequence (header_range block g gs img r c) (payload-length block g gs img r c)
          (found_at (copy_to block img r.numbers)))

      copies_put : (gs img : List ℕ) (r : Record) → Copying block gs img r → SameBlock img → Each Source gs → Each (AlwaysPuts of) (copy_steps block gs img r)
      unfolding copy_steps
      copies_put [] img r c same source = tt
      copies_put (g ∷ gs) img r c same source = (
        one_put g gs img r c same source.0,
        copies_put gs _ _ (copying_next block g gs img r c) (λ h b. page-same block g gs img r c h b ∙ same h b) source.1,
      )

-- ---- one call
abbrev KnownAt : Machine → Type 0
KnownAt m = Known m m.image m.origin

-- what a call's bytes are, by the machine before it
abbrev origins_by : Machine → Call → List ℕ → ℕ → Origin
origins_by m call = byte_origin m.book.bringer (bringer_in m.calls call m.book)

module _ (m : Machine) (h : History m) (known : KnownAt m) where
  abbrev Putting : Event → Type 0
  Putting e = PutsAll (step m e) (origins_by m e.call) e.n e.k (outcome_at m e).steps

  module _ (e : Event) (may : Permitted m e) where
    -- keys keep their nodes and their noise
    later : Known (step m e) m.image m.origin
    later g j p c l q =
        let u = known g j p c l q in
        let n = later_noise m e c ((standing m h).settled.sound.used (payload_byte g j) p c q) in
        record {
          position = u.position;
          node = u.node;
          noted = one_node_per_key m h e may p c u.position u.node u.noted;
          byte = u.byte ∙ ap (λ (xs : List ℕ). get_or (enciphered (key_in_noise xs p) u.node.bytes) j erased) (sym n);
          names = u.names;
        }

    after : Putting e → KnownAt (step m e)
    unfolding step left
    after puts =
        play-known (step m e) (origins_by m e.call) (whole-begun m.book.bringer (bringer_in m.calls e.call m.book)) e.n e.k
        (outcome_at m e).steps m.image m.origin m.unsettled (at_call m h e may).legal (at_call m h e may).on_settled (begun-end m h) puts later

    nodeless : Each Nodeless (outcome_at m e).steps → Putting e
    nodeless = nodeless_puts (step m e) m.book.bringer (bringer_in m.calls e.call m.book) e.n e.k (outcome_at m e).steps

    stepless : (outcome_at m e).steps ≡ [] → Putting e
    stepless q = rw q tt

  -- ---- a write: from its whole header on its node is noted
  module _ (on : T m.on) (file offset : ℕ) (given : Given) (done : (write_given m.image m.store file offset given).reply ≡ Done) where
    abbrev writing : ℕ → ℕ → Event
    writing n k = record { call = write file offset given; n = n; k = k }

    abbrev p : ℕ
    p = lowest_marked m.book

    abbrev f : Frame
    f = node_frame m.store.numbers.sequence file offset p (second_given given)

    abbrev sealed : List ℕ
    sealed = enciphered (key_in_noise (m.noise (m.book.bringer p)) p) (bytes_given given)

    abbrev page : Step
    page = program (found_at (new_page m.image m.store.numbers)) (page_bytes f sealed)

    ranges : in_range f ≡ true
    ranges =
        let t = given_taken m.image m.store file offset given done in
        let l = (taken_free m h on file offset given done).0 in
        (node_range f refl).1
        (record {
          from_one = (fits_is m.image m.store t.ready.fit).sequence.0;
          number = t.numbers_left;
          file = t.planned.file_right;
          offset = t.planned.offset_right;
          position = omega (arith, l);
          second = t.filling.second_most;
        })

    long : length sealed ≡ payload_size
    long = enciphered-length _ (bytes_given given) ∙ (given_taken m.image m.store file offset given done).filling.bytes_full

    page_puts : (n k i : ℕ) → (header_size < i → (0 < n) ⊎ (header_size ≤ k)) → Puts (step m (writing n k)) (origins_by m (write file offset given)) i page
    page_puts n k i begun =
        let noise = later_noise m (writing n k) (m.book.bringer p) ((standing m h).settled.sound.begun p) in
        node_puts (step m (writing n k)) m.book.bringer _ f sealed ranges long i (λ j l b.
        record {
          node = record { file = file; offset = offset; second = second_given given; bytes = bytes_given given };
          position = (taken_free m h on file offset given done).0;
          noted = node-noted m h on file offset given done n k (begun (omega arith));
          byte = ap (λ (xs : List ℕ). get_or (enciphered (key_in_noise xs p) (bytes_given given)) j erased) (sym noise);
          names = record { kind = refl; file = refl; offset = refl; key = refl; second = refl };
        }) (found_at (new_page m.image m.store.numbers))

    all_puts : (n k : ℕ) → PutsAll (step m (writing n k)) (origins_by m (write file offset given)) n k (page ∷ [])
    all_puts zero k = page_puts zero k k (λ l. inr (omega arith))
    all_puts (suc n) k = (page_puts (suc n) k block_size (λ l. inl (omega arith)), tt)

    write_puts : (n k : ℕ) → Putting (writing n k)
    unfolding node_page
    write_puts n k = rw ((at_call m h (writing 0 0) (while_on m on false, tt)).programs done) (all_puts n k)

  -- ---- a gather: each live page's bytes are known as those of the node of its key
  module _ (on : T m.on) (block n k : ℕ) (done : (gather_of m.image m.store block).reply ≡ Done) where
    abbrev gathering : Event
    gathering = record { call = gather block; n = n; k = k }

    abbrev map : List ℕ
    map = m.store.map

    abbrev FromHere : ℕ → Type 0
    FromHere = Source (step m gathering) m.book.bringer (bringer_in m.calls (gather block) m.book) block m.image

    source : (g : ℕ) → LiveIn block m.image map g → FromHere g
    source g v f headed j l =
        let w = live-place map g v.live in
        let x = place_on map g in
        go x w.1 w.2 (m.book.content x) ((at_end m h on).mapped x w.0) ((at_end m h on).ciphered x w.0)
      where
        go : (x : ℕ) → live map x ≡ true → page_of map x ≡ g → (c : Option Holding) → MapHas map x c → UnderKey map m.origin m.book.bringer x c
            → Under (step m gathering) (page_at m.image g) j f.key (m.book.bringer f.key)
        go x lives at none has under = absurd (let z : live map x ≡ false = rw has.0 in true-false lives z)
        go x lives at (some b) has under =
            let u = later gathering (while_on m on false, tt) g j b.position (m.book.bringer b.position) l (rw (← at) (under j l)) in
            let key : f.key ≡ b.position = (u.names f headed).key in
            rw key u

    sources : (gs : List ℕ) → Each (LiveIn block m.image map) gs → Each FromHere gs
    sources [] v = tt
    sources (g ∷ gs) v = (source g v.0, sources gs v.1)

    gather_puts : Putting gathering
    gather_puts =
        let c = gather_copying m.image m.store block (gather_taken_lem m.image m.store block done) in
        let gs = live_pages map block in
        rw (ap (λ (o : Outcome). o.steps) (gather_outcome m.image m.store block done))
        (each_puts (step m gathering) (origins_by m (gather block)) n k (copy_steps block gs m.image m.store)
        (copies_put (step m gathering) m.book.bringer _ block m.image gs m.image m.store c (λ h b. refl) (sources gs c.lives)))

  -- ---- any call
  abbrev calling : Call → ℕ → ℕ → Event
  calling call n k = record { call = call; n = n; k = k }

  putting : (call : Call) (n k : ℕ) → Permitted m (calling call n k) → Putting (calling call n k)
  putting (mount map letters scratch) n k may = nodeless (calling (mount map letters scratch) n k) may (mount_nodeless m.image map letters scratch)
  putting (write file offset given) n k may = go (is_done (write_given m.image m.store file offset given).reply) refl
    where
      go : (t : Bool) → is_done (write_given m.image m.store file offset given).reply ≡ t → Putting (calling (write file offset given) n k)
      go true q = write_puts (or-on m.on may.0) file offset given (done-true _ q) n k
      go false q =
          stepless (calling (write file offset given) n k) may (ap (λ (o : Outcome). o.steps) (given-refused m.image m.store file offset given q))
  putting (read file offset output) n k may =
      stepless (calling (read file offset output) n k) may (ap (λ (o : Outcome). o.steps) (read_stepless m.image m.store file offset output))
  putting (cut_off file offset) n k may = nodeless (calling (cut_off file offset) n k) may (cut_off_nodeless m.image m.store file offset)
  putting (commit noise) n k may = nodeless (calling (commit noise) n k) may (commit_nodeless m.image m.store noise)
  putting (wipe noise file offset) n k may = nodeless (calling (wipe noise file offset) n k) may (wipe_nodeless m.image m.store noise file offset)
  putting (gather block) n k may = go (is_done (gather_of m.image m.store block).reply) refl
    where
      go : (t : Bool) → is_done (gather_of m.image m.store block).reply ≡ t → Putting (calling (gather block) n k)
      go true q = gather_puts (or-on m.on may.0) block n k (done-true _ q)
      go false q = stepless (calling (gather block) n k) may (ap (λ (o : Outcome). o.steps) (gather-refused m.image m.store block q))

  known_step : (e : Event) → Permitted m e → KnownAt (step m e)
  known_step e may = after e may (putting e.call e.n e.k may)

-- ---- at the end of every list
module _ (img map letters noise : List ℕ) (size : T (size_right img)) (lent : T (buffers_right map letters)) (long : length noise ≡ noise_size) where
  abbrev m : Machine
  m = start img map letters noise

  abbrev ds : List Step
  ds = format_steps img noise

  abbrev traced : ℕ → Origin
  traced = trace (byte_origin m.book.bringer m.book.bringer) (length ds) 0 ds (λ a. plain)

  format_known : Known m (play_all ds img) traced
  format_known =
      let taken = format_taken_lem img map letters noise size lent long in
      let legal : AllLegal img ds = subst (λ (o : Outcome). AllLegal img o.steps) taken (format_legal img map letters noise) in
      subst (λ (i : List ℕ). Known m i traced) (play_all_lem (length ds) 0 ds img (omega arith))
      (play-known m (byte_origin m.book.bringer m.book.bringer) (whole-begun m.book.bringer m.book.bringer) (length ds) 0 ds img (λ a. plain)
      (any_block img) legal (format_on_settled_lem img noise) (none-begun img (any_block img))
      (nodeless_puts m m.book.bringer m.book.bringer (length ds) 0 ds (format_nodeless img noise))
      (λ g j p c l e. absurd (let y : ◌≡◌ {A = ℕ} 0 1 = cc in omega arith)))

  start-image : m.image ≡ play_all ds img
  unfolding start left_whole
  start-image = rw (format_taken_lem img map letters noise size lent long)

  start-origin : m.origin ≡ traced
  unfolding start left_whole
  start-origin = rw (format_taken_lem img map letters noise size lent long)

  start-known : KnownAt (start img map letters noise)
  start-known =
      subst (λ (i : List ℕ). Known m i m.origin) (sym start-image)
      (subst (λ (o : ℕ → Origin). Known m (play_all ds img) o) (sym start-origin) format_known)

along_known : (m : Machine) → History m → KnownAt m → (es : List Event) → Allowed m es → KnownAt (end_of m es)
along_known m h known [] a = known
along_known m h known (e ∷ es) a = along_known (step m e) (next m h e (a.0, a.1)) (known_step m h known e (a.0, a.1)) es a.2

known-end : (m : Machine) → History m → KnownAt m
known-end m h =
    subst KnownAt h.here
    (along_known _ (history h.image h.map h.letters h.noise h.size h.lent h.long [] tt)
    (start-known h.image h.map h.letters h.noise h.size h.lent h.long) h.events h.allowed)

-- ---- which bytes are enciphered: those of payloads
abbrev Within : (ℕ → Origin) → Type 0
Within o = (a p c : ℕ) → o a ≡ cipher p c → (header_size ≤ a % page_size) × (a % page_size < closing_at)

step-within : (now new : ℕ → ℕ) (k : ℕ) (d : Step) (o : ℕ → Origin) → Within o → Within (trace_up_to (byte_origin now new) k d o)
step-within now new k (erase b) o within a p c e =
    go (erase-origin (byte_origin now new) k b o a)
  where
    go : (trace_up_to (byte_origin now new) k (erase b) o a ≡ plain) ⊎ (trace_up_to (byte_origin now new) k (erase b) o a ≡ o a)
        → (header_size ≤ a % page_size) × (a % page_size < closing_at)
    go (inl z) = absurd (let y : ◌≡◌ {A = ℕ} 0 1 = cc in omega arith)
    go (inr z) = within a p c (sym z ∙ e)
step-within now new k (program g page) o within a p c e = elim (ℕ_discrete (a / page_size) g) [
  | yes z ↦ elim (dec_lt (a % page_size) k) [
    | yes l ↦ byte-payload now new (a % page_size) p c page (sym (origin_programmed (byte_origin now new) k o a g page z l) ∙ e)
    | no l ↦ within a p c (sym (origin_unreached (byte_origin now new) k o a g page z (omega arith)) ∙ e)
  ]
  | no z ↦ within a p c (sym (origin_unprogrammed (byte_origin now new) k o a g page z) ∙ e)
]

trace-within : (now new : ℕ → ℕ) (n k : ℕ) (ds : List Step) (o : ℕ → Origin) → Within o → Within (trace (byte_origin now new) n k ds o)
unfolding trace
trace-within now new n k [] o within = within
trace-within now new zero k (d ∷ ds) o within = step-within now new k d o within
trace-within now new (suc n) k (d ∷ ds) o within =
    trace-within now new n k ds (trace_up_to (byte_origin now new) block_size d o) (step-within now new block_size d o within)

called_within : (m : Machine) (e : Event) → Within m.origin → Within (step m e).origin
unfolding step
called_within m e within =
    trace-within m.book.bringer (bringer_in m.calls e.call m.book) e.n e.k (outcome_at m e).steps m.origin within

along_within : (m : Machine) (es : List Event) → Within m.origin → Within (end_of m es).origin
along_within m [] within = within
along_within m (e ∷ es) within = along_within (step m e) es (called_within m e within)

start-within : (img map letters noise : List ℕ) → Within (start img map letters noise).origin
unfolding start
start-within img map letters noise =
    let ds = (format_of img map letters noise).steps in
    trace-within first_book.bringer first_book.bringer (length ds) 0 ds (λ a. plain) (λ a p c e. absurd (let y : ◌≡◌ {A = ℕ} 0 1 = cc in omega arith))

pub in_payloads : (m : Machine) → History m → InPayloads m
in_payloads m h a p c e =
    let first = start-within h.image h.map h.letters h.noise in
    let within = subst (λ (n : Machine). Within n.origin) h.here (along_within _ h.events first) in
    let b = within a p c e in
    (a / page_size, a % page_size - header_size, omega (arith, b.0, b.1), omega (arith, b.0))

payload_byte_lem : (img : List ℕ) (g j : ℕ) → j < payload_size → get_or img (payload_byte g j) erased ≡ get_or (page_at img g) (header_size + j) erased
unfolding page_at
payload_byte_lem img g j l = ap (λ (i : ℕ). get_or img i erased) (omega arith) ∙ sym (part_at img (g * page_size) page_size (header_size + j) erased (omega arith))

-- every byte that is under a key is the byte of that key's node, on a page whose header is that node's
pub one_node_on_flash : (m : Machine) → History m → OneNodeOnFlash m
one_node_on_flash m h g j p c l e =
    let u = known-end m h g j p c l e in
    record { node = u.node; noted = u.noted; byte = payload_byte_lem m.image g j l ∙ u.byte; header = u.names }

-- so two pages under one key are of one node: they differ in their sequences alone
pub pages_of_one_node : (m : Machine) → History m → (g g' j j' p c : ℕ) → j < payload_size → j' < payload_size
    → m.origin (payload_byte g j) ≡ cipher p c → m.origin (payload_byte g' j') ≡ cipher p c → SameNode m g g' p c
pages_of_one_node m h g g' j j' p c l l' e e' =
    record {
      headers = λ f f' q q'.
          let u = one_node_on_flash m h g j p c l e in
          let w = one_node_on_flash m h g' j' p c l' e' in
          same_fields f f' p u.node w.node (one u.node w.node (sym u.noted ∙ w.noted)) (u.header f q) (w.header f' q');
      bytes = λ i b q q'.
          let u = one_node_on_flash m h g i p c b q in
          let w = one_node_on_flash m h g' i p c b q' in
          let same = one u.node w.node (sym u.noted ∙ w.noted) in
          u.byte ∙ ap (λ (v : Node). get_or (enciphered (key_in_noise (m.noise c) p) v.bytes) i erased) same ∙ sym w.byte;
    }
  where
    one : (v w : Node) → ◌≡◌ {A = Option Node} (some v) (some w) → v ≡ w
    one v w q = cc

    same_fields : (f f' : Frame) (p : ℕ) (v w : Node) → v ≡ w → Names f p v → Names f' p w → f' ≡ with_number f'.number f
    same_fields f f' p v w q n n' =
        let kind : f.kind ≡ f'.kind = n.kind ∙ sym n'.kind in
        let file : f.unit ≡ f'.unit = n.file ∙ ap (λ (x : Node). x.file) q ∙ sym n'.file in
        let offset : f.part ≡ f'.part = n.offset ∙ ap (λ (x : Node). x.offset) q ∙ sym n'.offset in
        let key : f.key ≡ f'.key = n.key ∙ sym n'.key in
        let second : f.second ≡ f'.second = n.second ∙ ap (λ (x : Node). x.second) q ∙ sym n'.second in
        rw (kind, file, offset, key, second)
