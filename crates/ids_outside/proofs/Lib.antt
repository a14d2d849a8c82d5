pub mod MemoryFilesLemmas
