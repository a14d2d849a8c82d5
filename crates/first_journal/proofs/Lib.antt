mod WritingLemmas
